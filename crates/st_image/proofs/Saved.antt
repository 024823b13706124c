-- What was saved can start: the registers can be fetched again from what saving leaves.
use Rattle.std.proofs.Common.{◌≡◌, ◌∙◌, ◌⊎◌, inl, inr, ℕ, suc, ◌<◌, List, [], ◌∷◌, length, Some, Bool, true, false, refl, sym, ap, subst}
use Rattle.std.specs.Prelude.{IsTrue, ◌==◌, ◌&&◌, if◌then◌else◌}
use Rattle.st_model.specs.declared.head.ImageHead.{ImageHead}
use Rattle.st_model.specs.declared.page.PageObject.TheVariants.{SchedulerAssociation}
use Rattle.st_model.specs.Values.{Value}
use Rattle.st_model.specs.Objects.{nil, place_of}
use Rattle.st_model.specs.Machine.{ObjectMemory, State, Transition, Died, Went, Step, after, ◌>>=◌, ◌>>◌, roots_of, empty_world}
use Rattle.st_model.specs.Births.{Birth, Births, births, object_born, bears, bearer, borne, settled_births}
use Rattle.st_model.specs.Table.{Table, table}
use Rattle.st_model.specs.View.{View}
use Rattle.st_model.specs.Show.{Shows}
use Rattle.st_model.specs.Start.{idle_registers, idle_state, start_view, start}
use Rattle.st_model.specs.Settled.{IsRoot, page_root, IsReferredFrom, IsSettled, settled_set, reclaim}
use Rattle.st_model.specs.Contexts.{fetch_scheduled_registers}
use Rattle.st_model.specs.Cycles.{switch_if_waiting}
use Rattle.st_model.specs.Saving.{store_active, store_process, settled_after, save}
use Rattle.st_model.specs.inside.Calls.{itself}
use Rattle.st_simulation.proofs.Same.{TransitionSame, Anything}
use Rattle.st_simulation.proofs.ContextsSame.{fetch_scheduled_registers-same}
use Rattle.st_simulation.proofs.HeapsSame.{cycle_simulation}
use Rattle.st_simulation.proofs.Started.{naming, states_start}
use Rattle.st_model.proofs.BirthLemmas.{borne_before}
use Rattle.st_model.proofs.SettledLemmas.{some_is, is_some-of, settled-borne, bearer-borne, object_born-settled}
use Rattle.st_model.proofs.SettledIs.{settled_is}
use Rattle.st_frames.specs.declared.frame.Frame.{Frame}
use Rattle.st_frames.specs.inside.Shown.{shown}
use Rattle.st_image.specs.inside.Back.{CanStart}
use Rattle.st_image.specs.inside.Reading.{IsStart}
use Rattle.st_image.proofs.Fetching.{AlsoGoes, goes_fetch}
use Rattle.st_model.proofs.Reclaiming.{one_or_set, set_within, one_within}

-- what is kept and a root is in the largest set that supports itself

abbrev with_one : (ℕ → Bool) → ℕ → ℕ → Bool
with_one set n k = if k == n then true else set k

root_within : {H : Type 0} (m : ObjectMemory H) (h : H) (roots : List Value) (set : ℕ → Bool) (n : ℕ) → IsSettled m h roots set → IsTrue (m.kept h n) → IsRoot m h roots n
    → IsTrue (set n)
root_within m h roots set n settled kept root =
    let widened : (k : ℕ) → IsRoot m h roots k ⊎ IsReferredFrom m h set k → IsRoot m h roots k ⊎ IsReferredFrom m h (with_one set n) k = λ k s. elim s [
      | inl r ↦ inl r
      | inr r ↦ inr (record { from = r.from; object = r.object; member = set_within set n r.from (r.from == n) r.member; is = r.is; refers = r.refers })
    ] in
    settled.largest (with_one set n) (record {
      kept = λ k t. elim (one_or_set set n k (k == n) refl t) [
        | inl e ↦ subst (λ j. IsTrue (m.kept h j)) (sym e) kept
        | inr i ↦ settled.supports.kept k i
      ];
      supported = λ k t. elim (one_or_set set n k (k == n) refl t) [
        | inl e ↦ inl (subst (λ j. IsRoot m h roots j) (sym e) root)
        | inr i ↦ widened k (settled.supports.supported k i)
      ];
    }) n (one_within set n)

-- the bearer of a pointer bears it still, where it stays

bears_still : (b : Birth) (keep : Bool) (k : ℕ) → IsTrue keep → bears (record { object = b.object; pointer = b.pointer; kept = b.kept && keep }) k ≡ bears b k
bears_still b keep k t = rw (kept_still b.kept keep t) refl
  where
    kept_still : (a c : Bool) → IsTrue c → (a && c) ≡ a
    kept_still true c t = t
    kept_still false c t = refl

bears_no_more : (b : Birth) (keep : Bool) (k : ℕ) → bears b k ≡ false → bears (record { object = b.object; pointer = b.pointer; kept = b.kept && keep }) k ≡ false
bears_no_more b keep k e = none_more b.kept keep (b.pointer == k) e
  where
    none_more : (a c d : Bool) → (a && d) ≡ false → (a && c && d) ≡ false
    none_more true true d e = e
    none_more true false d e = refl
    none_more false c d e = refl

bearer_case : (b : Birth) (h : Births) (keep : ℕ → Bool) (k : ℕ) (c : Bool) → bears b k ≡ c → IsTrue (keep (if c then 0 else suc (bearer h k)))
    → (IsTrue (keep (suc (bearer h k))) → bearer (settled_births h (λ n. keep (suc n))) k ≡ bearer h k)
    → bearer (settled_births (b ∷ h) keep) k ≡ (if c then 0 else suc (bearer h k))
bearer_case b h keep k true e t f = rw (bears_still b (keep 0) k t ∙ e) refl
bearer_case b h keep k false e t f = rw (bears_no_more b (keep 0) k e) (ap (λ n. suc n) (f t))

bearer-settled : (h : Births) (keep : ℕ → Bool) (k : ℕ) → IsTrue (keep (bearer h k)) → bearer (settled_births h keep) k ≡ bearer h k
bearer-settled [] keep k t = refl
bearer-settled (b ∷ h) keep k t = bearer_case b h keep k (bears b k) refl t (bearer-settled h (λ n. keep (suc n)) k)

-- steps that went on

after_went : {S A B : Type 0} (o : Transition S A) (f : S → Transition S B) (b : B) (t : S) → after o (λ a u. f u) ≡ Went b t → (u : S) × (f u ≡ Went b t)
unfolding after
after_went (Died cause) f b t e = cc
after_went (Went a u) f b t e = (u, e)

next_went : {H A B : Type 0} (m : Step H A) (n : Step H B) (s t : State H) (b : B) → (m >> n).run s ≡ Went b t → (u : State H) × (n.run u ≡ Went b t)
unfolding ◌>>◌ ◌>>=◌
next_went m n s t b e = after_went (m.run s) n.run b t e

stored : (s t : State Births) → (store_process births).run s ≡ Went tt t → (u : State Births) × ((fetch_scheduled_registers births).run u ≡ Went tt t)
unfolding store_process
stored s t e =
    let last = fetch_scheduled_registers births in
    let a = next_went (switch_if_waiting births) (store_active births >> last) s t tt e in
    next_went (store_active births) last a.0 t tt a.1

settled_went : (o : Transition (State Births) Unit) (t : State Births) → settled_after births o ≡ Went tt t → (d : State Births) × (o ≡ Went tt d) × (reclaim births d ≡ t)
settled_went (Died cause) t e = cc
settled_went (Went x d) t e = let same : reclaim births d ≡ t = cc in (d, refl, same)

second_goes : {H : Type 0} (s u : State H) (o p : Transition (State H) Unit) → o ≡ Went tt u → AlsoGoes s o p → (d : State H) × (p ≡ Went tt d)
second_goes s u (Died a) p e h = cc
second_goes s u (Went x y) (Died b) e h = absurd h
second_goes s u (Went x y) (Went z w) e h = (w, refl)

-- what is fetched over two memories of the same objects

module _ {H : Type 0} (m : ObjectMemory H) (s t : State H) (same : (n : ℕ) → m.read t.memory n ≡ m.read s.memory n)
    (page : m.named t.memory SchedulerAssociation ≡ m.named s.memory SchedulerAssociation) (u : State H) (e : (fetch_scheduled_registers m).run s ≡ Went tt u) where
  also_fetched : (d : State H) × ((fetch_scheduled_registers m).run t ≡ Went tt d)
  also_fetched = second_goes s u ((fetch_scheduled_registers m).run s) ((fetch_scheduled_registers m).run t) e ((goes_fetch m s.memory t.memory same page).go s t refl refl)

-- the fetching leaves the memory
fetch_leaves : {H : Type 0} (m : ObjectMemory H) (s u : State H) → (fetch_scheduled_registers m).run s ≡ Went tt u → u.memory ≡ s.memory
fetch_leaves m s u e = subst (λ o. AlsoGoes s o o) e ((goes_fetch m s.memory s.memory (λ n. refl) refl).go s s refl refl)

-- The book's machine can fetch its registers again from what was saved, where the page is still there.
module _ (d : State Births) (there : borne (reclaim births d).memory (bearer (reclaim births d).memory (place_of SchedulerAssociation)) ≡ Some (place_of SchedulerAssociation)) where
  abbrev left : ℕ → Bool
  left = settled_set births d.memory (roots_of d)

  finite : (n : ℕ) → IsTrue (births.kept d.memory n) → n < length d.memory
  finite n h = let p = some_is (borne d.memory n) h in borne_before d.memory n p.0 p.1

  bearer_left : bearer (reclaim births d).memory (place_of SchedulerAssociation) ≡ bearer d.memory (place_of SchedulerAssociation)
  unfolding reclaim
  bearer_left =
      let at = place_of SchedulerAssociation in
      let bears = settled-borne d.memory left (bearer (settled_births d.memory left) at) at there in
      let first = bearer-borne d.memory (bearer (settled_births d.memory left) at) at bears.0 in
      let kept = is_some-of (borne d.memory (bearer d.memory at)) at first in
      bearer-settled d.memory left at (root_within births d.memory (roots_of d) left (bearer d.memory at) (settled_is births d.memory (roots_of d) finite) kept (page_root SchedulerAssociation refl))

  read_left : (n : ℕ) → object_born (reclaim births d).memory n ≡ object_born d.memory n
  unfolding reclaim
  read_left n = object_born-settled d.memory left n

  fetched_again : (s : State Births) → (fetch_scheduled_registers births).run s ≡ Went tt d → (u : State Births) × ((fetch_scheduled_registers births).run (reclaim births d) ≡ Went tt u)
  fetched_again s e =
      let leaves = fetch_leaves births s d e in
      also_fetched births s (reclaim births d)
      (λ n. read_left n ∙ ap (λ h. object_born h n) leaves)
      (bearer_left ∙ ap (λ h. bearer h (place_of SchedulerAssociation)) leaves) d e

-- so can a table that shows it
table_went : (w : _) (o : Transition (State Births) Unit) (p : Transition (State Table) Unit) (u : State Births) → o ≡ Went tt u → TransitionSame (cycle_simulation w) Anything itself o p
    → (d : State Table) × (p ≡ Went tt d)
table_went w (Died a) p u e h = cc
table_went w (Went x y) (Died b) u e h = absurd h.1
table_went w (Went x y) (Went z d) u e h = (d, refl)

pub saved_starts : (s t : State Births) (c : State Table) (v : View) → save births s ≡ Went tt t → Shows c t → v.objects ≡ c.memory → CanStart v
unfolding save
saved_starts s t c v e shows objects =
    let d = settled_went ((store_process births).run s) t e in
    let u = stored s d.0 d.1 in
    let again = fetched_again d.0 (subst (λ (x : State Births). borne x.memory (bearer x.memory (place_of SchedulerAssociation)) ≡ Some (place_of SchedulerAssociation)) (sym d.2) (shows.page SchedulerAssociation)) u.0 u.1 in
    let births_went : (fetch_scheduled_registers births).run t ≡ Went tt again.0 = subst (λ x. (fetch_scheduled_registers births).run x ≡ Went tt again.0) d.2 again.1 in
    let n = naming c t shows in
    let went = table_went n ((fetch_scheduled_registers births).run t) ((fetch_scheduled_registers table).run c) again.0 births_went
    ((fetch_scheduled_registers-same (cycle_simulation n)).go t c (states_start c t shows)) in
    also_fetched table c (idle_state v) (λ k. ap (λ h. table.read h k) objects) refl went.0 went.1

-- what was read begins, so that it can start again
pub read_starts : (h : ImageHead) (bytes : List ℕ) (v : View) (f : Frame) → IsStart h bytes v f → CanStart v
unfolding start
read_starts h bytes v f begun =
    let idle : idle_state v ≡ idle_state (start_view h bytes) = λ i. record { memory = begun.objects i; registers = idle_registers; world = empty_world nil; head = begun.head i } in
    (shown v f (empty_world nil), ap (fetch_scheduled_registers table).run idle ∙ begun.state)
