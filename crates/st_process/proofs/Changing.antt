-- A change of the world is what the deed does that is left for it, where what it names is there.
use Rattle.std.proofs.Common.{◌≡◌, Bool, true, false, [], ◌∷◌, is_some, refl, ap, sym, ◌∙◌, arith}
use Rattle.std.specs.Prelude.{◌||◌, nat_le}
use Rattle.std.proofs.lemmas.Bool.Decides.{nat_tests}
use Rattle.st_model.specs.declared.dead.Dead.{Dead}
use Rattle.st_model.specs.declared.dead.Dead.TheVariants as dead
use Rattle.st_model.specs.declared.device.Device.{Device}
use Rattle.st_model.specs.declared.device.Device.TheVariants as device
use Rattle.st_model.specs.declared.deed.Deed.TheVariants as deed
use Rattle.st_model.specs.declared.word.Word.{Word}
use Rattle.st_model.specs.Values.{Value, Small, Ref, word}
use Rattle.st_model.specs.Surroundings.{Change, Hold, SetLow, MoveMouse, changed_world, named_by}
use Rattle.st_model.specs.Machine.{ObjectMemory, State, Died, Went, is_there, all_there, answer, after, tried, ◌>>=◌, ◌>>◌}
use Rattle.st_model.specs.Table.{Table, table, IsTabular}
use Rattle.st_model.specs.Steps.{world_changed, change_world, check}
use Rattle.st_model.specs.Primitives.{succeed, primitive}
use Rattle.st_model.specs.Deeds.{with_deed}
use Rattle.st_model.specs.Input.{always, mouse_point, primitive_mouse_point, move_mouse, set_low_space}
use Rattle.st_model.proofs.Runs.{run-change_world, run-passed, run-failed}
use Rattle.st_frames.specs.inside.Answering.{succeed_with}
use Rattle.st_frames.proofs.Tries.{primitive-same}
use Rattle.st_process.specs.inside.Timing.{place_in, low_in}
use Rattle.st_process.specs.declared.shapes.Place.{Place}
use Rattle.st_process.specs.declared.shapes.Low.{Low as CodeLow}

-- over a memory that reads as the table does, the same is there
pub there-is : (m : ObjectMemory Table) → IsTabular m → (t : Table) (v : Value) → is_there m t v ≡ is_there table t v
there-is m tabular t (Small n) = refl
there-is m tabular t (Ref n) = λ i. is_some (tabular.read i t n)

pub one-there : (m : ObjectMemory Table) (t : Table) (v : Value) → is_there m t v ≡ true → all_there m t (v ∷ []) ≡ true
one-there m t v e = rw e refl

one-gone : (m : ObjectMemory Table) (t : Table) (v : Value) → is_there m t v ≡ false → all_there m t (v ∷ []) ≡ false
one-gone m t v e = rw e refl

unchanged : (c : Change) (s : State Table) (b : Bool) → b ≡ false → world_changed c s b ≡ Died dead.Kind
unfolding world_changed
unchanged c s true e = cc
unchanged c s false e = refl

pub change-gone : (m : ObjectMemory Table) (c : Change) (v : Value) (s : State Table) → named_by c ≡ v ∷ [] → is_there m s.memory v ≡ false → (change_world m c).run s ≡ Died dead.Kind
unfolding change_world
change-gone m c v s e g = unchanged c s (all_there m s.memory (named_by c)) (ap (all_there m s.memory) e ∙ one-gone m s.memory v g)

module _ (m : ObjectMemory Table) (tabular : IsTabular m) (t : Table) (s : State Table) (same : s.memory ≡ t) (v : Word) where
  held_there : is_there m t (word v) ≡ true → is_there m s.memory (word v) ≡ true
  held_there e = ap (λ u. is_there m u (word v)) same ∙ e

  pub of_table : is_there m t (word v) ≡ true → is_there table s.memory (word v) ≡ true
  of_table e = sym (there-is m tabular s.memory (word v)) ∙ held_there e

  pub hold-left : (d : Device) → is_there m t (word v) ≡ true → (change_world m (Hold d (word v))).run s ≡ Went tt (with_deed (deed.Hold d v) s)
  hold-left d e =
      run-change_world m (Hold d (word v)) s (one-there m s.memory (word v) (held_there e))
      ∙ ap (λ w. Went tt (record s { world = w })) (sym (rw (of_table e) refl))

  pub hold-gone : (d : Device) → is_there m t (word v) ≡ false → (change_world m (Hold d (word v))).run s ≡ Died dead.Kind
  hold-gone d e = change-gone m (Hold d (word v)) (word v) s refl (ap (λ u. is_there m u (word v)) same ∙ e)

  pub low-left : (low : CodeLow) (x : Value) → is_there m t (word v) ≡ true → (set_low_space m (word v) (low_in low) x).run s ≡ Went x (with_deed (deed.SetLowSpace v low.entries low.words) s)
  unfolding set_low_space ◌>>◌ ◌>>=◌ after answer
  low-left low x e =
      let first = run-change_world m (Hold device.LowSpace (word v)) s (one-there m s.memory (word v) (held_there e)) in
      rw first (
      rw (run-change_world m (SetLow low.entries low.words) (record s { world = changed_world (Hold device.LowSpace (word v)) s.world }) refl)
      (ap (λ w. Went x (record s { world = w })) (sym (rw (of_table e) refl))))

  pub low-gone : (low : CodeLow) (x : Value) → is_there m t (word v) ≡ false → (set_low_space m (word v) (low_in low) x).run s ≡ Died dead.Kind
  unfolding set_low_space ◌>>◌ ◌>>=◌ after
  low-gone low x e = rw (hold-gone device.LowSpace e) refl

pub ruleset holds = (hold-left, hold-gone)

pub ruleset lows = (low-left, low-gone)

-- a new Point of the mouse's place is always made
pub mouse-tried : (m : ObjectMemory Table) (s : State Table) → (primitive_mouse_point m).run s ≡ after ((mouse_point m).run s) (λ v t. (succeed_with m 0 v).run t)
unfolding primitive_mouse_point primitive succeed tried always answer after ◌>>=◌ ◌>>◌ succeed_with
mouse-tried m s = refl

pub ruleset points = (mouse-tried)

pub mouse-left : (m : ObjectMemory Table) (v : Value) (p : Place) (s : State Table) → (move_mouse m v (place_in p)).run s ≡ Went v (with_deed (deed.MoveMouse p.x p.y) s)
unfolding move_mouse ◌>>◌ ◌>>=◌ after answer
mouse-left m v p s =
    let a : nat_le p.x 16383 ≡ true = let l = p.left in grind (arith, nat_tests) in
    let b : nat_le p.y 16383 ≡ true = let l = p.top in grind (arith, nat_tests) in
    rw (run-change_world m (MoveMouse p.x p.y) s refl) (ap (λ w. Went v (record s { world = w })) (sym (rw (a, b) refl)))

pub ruleset mice = (mouse-left)

-- one of two tests
pub either-first : (k : Dead) (b c : Bool) (s : State Table) → b ≡ true → (check k (b || c)).run s ≡ Went tt s
either-first k b c s e = run-passed k (b || c) s (rw e refl)

pub either-second : (k : Dead) (b c : Bool) (s : State Table) → c ≡ true → (check k (b || c)).run s ≡ Went tt s
either-second k true c s f = run-passed k (true || c) s refl
either-second k false c s f = run-passed k (false || c) s f

pub neither : (k : Dead) (b c : Bool) (s : State Table) → b ≡ false → c ≡ false → (check k (b || c)).run s ≡ Died k
neither k b c s e f = run-failed k (b || c) s (rw (e, f) refl)

pub ruleset truths = (either-first, either-second, neither)

pub ruleset same = (primitive-same)
