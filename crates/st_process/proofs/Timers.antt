-- What is done to the timer is what the deed does that is left for it.
use Rattle.std.proofs.Common.{◌≡◌, ℕ, ◌<◌, true, false, length, refl, ap, sym, ◌∙◌, arith}
use Rattle.std.specs.Prelude.{nat_lt}
use Rattle.std.proofs.lemmas.Bool.Decides.{nat_tests}
use Rattle.st_model.specs.declared.dead.Dead.TheVariants as dead
use Rattle.st_model.specs.declared.device.Device.TheVariants as device
use Rattle.st_model.specs.declared.deed.Deed.TheVariants as deed
use Rattle.st_model.specs.declared.word.Word.{Word}
use Rattle.st_model.specs.Values.{Value, Ref, word}
use Rattle.st_model.specs.declared.page.PageObject.TheVariants.{NilObject}
use Rattle.st_model.specs.Objects.{nil, place_of}
use Rattle.st_model.specs.Surroundings.{Hold, AddSignal, SetDue, changed_world}
use Rattle.st_model.specs.Machine.{ObjectMemory, State, Died, Went, is_there, after, ◌>>=◌, ◌>>◌}
use Rattle.st_model.specs.Table.{Table, IsTabular}
use Rattle.st_model.specs.Steps.{of_page, change_world}
use Rattle.st_model.specs.Deeds.{with_deed}
use Rattle.st_model.specs.Input.{Rings, Waits, LetsGo, signal_once, set_timer}
use Rattle.st_model.proofs.Runs.{run-change_world}
use Rattle.st_frames.proofs.Doing.{row-page}
use Rattle.st_process.specs.inside.Timing.{wait_for}
use Rattle.st_process.proofs.Changing.{one-there, of_table, change-gone}

module _ (m : ObjectMemory Table) (tabular : IsTabular m) (t : Table) (s : State Table) (same : s.memory ≡ t) (v : Word) where
  there : (x : Value) → is_there m t x ≡ true → is_there m s.memory x ≡ true
  there x e = ap (λ u. is_there m u x) same ∙ e

  pub ring-left : is_there m t (word v) ≡ true → is_there m t (Ref (place_of NilObject)) ≡ true → length s.world.devices.pending < 4096
      → (signal_once m device.Timer (word v)).run s ≡ Went tt (with_deed (deed.RingTimer v) s)
  unfolding signal_once ◌>>◌ ◌>>=◌ after
  ring-left e f l =
      let added = record s { world = changed_world (AddSignal (word v)) s.world } in
      let b : nat_lt (length s.world.devices.pending) 4096 ≡ true = grind (arith, nat_tests) in
      rw (run-change_world m (AddSignal (word v)) s (one-there m s.memory (word v) (there (word v) e)))
      (rw (row-page m tabular NilObject added)
      (rw (run-change_world m (Hold device.Timer nil) added (one-there m s.memory nil (there nil f)))
      (ap (λ w. Went tt (record s { world = w })) (sym (rw (of_table m tabular t s same v e, b) refl)))))

  pub ring-gone : is_there m t (word v) ≡ false → (signal_once m device.Timer (word v)).run s ≡ Died dead.Kind
  unfolding signal_once ◌>>◌ ◌>>=◌ after
  ring-gone e = rw (change-gone m (AddSignal (word v)) (word v) s refl (ap (λ u. is_there m u (word v)) same ∙ e)) refl

  pub ring-without : is_there m t (word v) ≡ true → is_there m t (Ref (place_of NilObject)) ≡ false → (signal_once m device.Timer (word v)).run s ≡ Died dead.Kind
  unfolding signal_once ◌>>◌ ◌>>=◌ after
  ring-without e f =
      let added = record s { world = changed_world (AddSignal (word v)) s.world } in
      rw (run-change_world m (AddSignal (word v)) s (one-there m s.memory (word v) (there (word v) e)))
      (rw (row-page m tabular NilObject added) (change-gone m (Hold device.Timer nil) nil added refl (ap (λ u. is_there m u nil) same ∙ f)))

  pub wait-left : (due : ℕ) → is_there m t (word v) ≡ true → (wait_for m (word v) due).run s ≡ Went tt (with_deed (deed.SetTimer v due) s)
  unfolding wait_for ◌>>◌ ◌>>=◌ after
  wait-left due e =
      rw (run-change_world m (Hold device.Timer (word v)) s (one-there m s.memory (word v) (there (word v) e)))
      (rw (run-change_world m (SetDue due) (record s { world = changed_world (Hold device.Timer (word v)) s.world }) refl)
      (ap (λ w. Went tt (record s { world = w })) (sym (rw (of_table m tabular t s same v e) refl))))

  pub wait-gone : (due : ℕ) → is_there m t (word v) ≡ false → (wait_for m (word v) due).run s ≡ Died dead.Kind
  unfolding wait_for ◌>>◌ ◌>>=◌ after
  wait-gone due e = rw (change-gone m (Hold device.Timer (word v)) (word v) s refl (ap (λ u. is_there m u (word v)) same ∙ e)) refl

pub ruleset rings = (ring-left, ring-gone, ring-without)

pub ruleset waits = (wait-left, wait-gone)

module _ (m : ObjectMemory Table) (a : Value) (s : State Table) where
  pub timer-rings : (set_timer m a Rings).run s ≡ (signal_once m device.Timer a).run s
  unfolding set_timer
  timer-rings = refl

  pub timer-waits : (due : ℕ) → (set_timer m a (Waits due)).run s ≡ (wait_for m a due).run s
  unfolding set_timer wait_for
  timer-waits due = refl

  pub timer-let_go : (set_timer m a LetsGo).run s ≡ after ((of_page m NilObject).run s) (λ x t. (change_world m (Hold device.Timer x)).run t)
  unfolding set_timer ◌>>=◌
  timer-let_go = refl

pub ruleset timers = (timer-rings, timer-waits, timer-let_go)
