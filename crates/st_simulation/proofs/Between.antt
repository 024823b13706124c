-- What is done between bytecodes and makes nothing: it does the same where the table is bounded, leaves it sound, and the table
-- shows the births again, also once both have reclaimed.
use Rattle.std.proofs.Common.{◌≡◌, ◌≤◌, refl, sym, ap, subst, inl, inr}
use Rattle.st_model.specs.Outcomes as outcome
use Rattle.st_model.specs.Machine.{ObjectMemory, Head, State, Transition, Died, Went, Step}
use Rattle.st_model.specs.Births.{Births, births}
use Rattle.st_model.specs.Table.{Table, table, bounded_table}
use Rattle.st_model.specs.inside.Calls.{itself}
use Rattle.st_model.specs.Show.{Shows}
use Rattle.st_model.specs.inside.Foreseen.{IsSound, ShownAgain}
use Rattle.st_model.specs.Saving.{settled_after}
use Rattle.st_model.specs.Values.{Value}
use Rattle.st_model.specs.Processes.{switch_to_process}
use Rattle.st_simulation.proofs.ProcessesSame.{switch_to_process-same}
use Rattle.st_model.proofs.Names.{any_value}
use Rattle.st_simulation.proofs.Same.{Simulation, TransitionSame, Anything, SameAnswer, strict, strict_states}
use Rattle.st_simulation.proofs.HeapsSame.{cycle_simulation}
use Rattle.st_simulation.proofs.Bounded.{bounded_simulation, bounded_start, state_is, value-itself}
use Rattle.st_simulation.proofs.Closed.{sound_simulation, stays_sound}
use Rattle.st_model.proofs.Reclaiming.{reclaim_sound}
use Rattle.st_simulation.proofs.Started.{naming, states_start}
use Rattle.st_simulation.proofs.Again.{shown_again}
use Rattle.st_simulation.proofs.Reclaimed.{went_step}

-- where nothing is made, a bounded table ends as the table does
pub both_same : (a : Head) (o p : Transition (State Table) (Unit {0})) → TransitionSame (strict (bounded_simulation a)) Anything itself o p → p ≡ o
both_same a (Died k) (Died l) (inl h) = ap (λ x. Died x) h
both_same a (Died k) (Died l) (inr h) = absurd h
both_same a (Died k) (Went y d) h = absurd h
both_same a (Went x c) (Died k) h = absurd h.1
both_same a (Went x c) (Went y d) (inl h) = absurd h.1
both_same a (Went x c) (Went y d) (inr h) =
    let s = h.2 in
    ap (λ z. Went tt z) (state_is a c d (record { memory = s.memory; limits = s.limits; there = s.there; roots = s.roots; registers = s.registers; world = s.world; head = s.head }))

-- a step over any memory that does the same over two memories of the same objects
module _ (m : (H : Type 0) → ObjectMemory H → Step H (Unit {0}))
    (same : (H K : Type 0) (M : ObjectMemory H) (N : ObjectMemory K) (sim : Simulation M N) → SameAnswer sim (m H M) (m K N)) where
  -- bounded or not
  pub as_table : (c : State Table) → (m Table bounded_table).run c ≡ (m Table table).run c
  as_table c =
      both_same c.head ((m Table table).run c) ((m Table bounded_table).run c)
      ((same Table Table table bounded_table (strict (bounded_simulation c.head))).go c c (strict_states (bounded_simulation c.head) c c (bounded_start c)))

  pub keeps_sound : (c d : State Table) → IsSound c → c.head.entries ≤ 32767 → (m Table bounded_table).run c ≡ Went tt d → IsSound d × (d.head ≡ c.head)
  keeps_sound c d k few e = stays_sound c.head few Anything itself (m Table bounded_table) (same Table Table bounded_table bounded_table (sound_simulation c.head few)) c d tt k refl e

  module _ (c : State Table) (s : State Births) (w : Shows c s) where
    -- beside the births that the table shows
    beside : TransitionSame (cycle_simulation (naming c s w)) Anything itself ((m Births births).run s) ((m Table bounded_table).run c)
    beside = subst (λ o. TransitionSame (cycle_simulation (naming c s w)) Anything itself ((m Births births).run s) o) (sym (as_table c)) ((same Births Table births table (cycle_simulation (naming c s w))).go s c (states_start c s w))

    pub shows_again : IsSound c → c.head.entries ≤ 32767 → ShownAgain ((m Table bounded_table).run c) ((m Births births).run s)
    shows_again k few = shown_again (naming c s w) ((m Births births).run s) ((m Table bounded_table).run c) beside (λ d e. (keeps_sound c d k few e).0.closed)

    settled_shown : (o : Transition (State Births) (Unit {0})) (p : Transition (State Table) (Unit {0})) → TransitionSame (cycle_simulation (naming c s w)) Anything itself o p
        → ((d : State Table) → p ≡ Went tt d → IsSound d) → ShownAgain (settled_after table p) (settled_after births o)
    settled_shown (Died a) (Died b) (inl h) k = h
    settled_shown (Died a) (Died b) (inr h) k = absurd h
    settled_shown (Died a) (Went y d) h k = absurd h
    settled_shown (Went x u) (Died b) h k = absurd h.1
    settled_shown (Went x u) (Went y d) (inl h) k = absurd h.1
    settled_shown (Went x u) (Went y d) (inr h) k =
        let closed = (reclaim_sound d (k d refl)).closed in
        let r = went_step (naming c s w) d u outcome.Went h.2 tt closed tt in
        (r.1, closed)

    -- once what nothing supports is dropped in both
    pub shows_settled : IsSound c → c.head.entries ≤ 32767 → ShownAgain (settled_after table ((m Table bounded_table).run c)) (settled_after births ((m Births births).run s))
    shows_settled k few = settled_shown ((m Births births).run s) ((m Table bounded_table).run c) beside (λ d e. (keeps_sound c d k few e).0)

-- a switch to a process leaves sound what was
pub switched_sound : (c d : State Table) (p : Value) → IsSound c → c.head.entries ≤ 32767 → (switch_to_process bounded_table p).run c ≡ Went tt d → IsSound d × (d.head ≡ c.head)
switched_sound c d p k few e =
    let same : SameAnswer (sound_simulation c.head few) (switch_to_process bounded_table p) (switch_to_process bounded_table p) =
    switch_to_process-same (sound_simulation c.head few) p p (record { live = any_value p; is = sym (value-itself p) }) in
    stays_sound c.head few Anything itself (switch_to_process bounded_table p) same c d tt k refl e
