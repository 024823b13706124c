-- What the bytecode does over the table is what would be foreseen: both are what it does over the births that the table shows.
use Rattle.std.proofs.Common.{◌≡◌, refl, sym, ◌∙◌, ap, length, inl, inr}
use Rattle.st_model.specs.Outcomes.{Outcome, renamed_outcome, IsLiveOutcome}
use Rattle.st_model.specs.Machine.{World, State, Transition, Died, Went, used}
use Rattle.st_model.specs.Births.{Births, births}
use Rattle.st_model.specs.Table.{Table, table, apart}
use Rattle.st_model.specs.Bytecodes.{step}
use Rattle.st_model.specs.Show.{Shows, raised}
use Rattle.st_model.specs.inside.Foreseen.{Foretells}
use Rattle.st_model.specs.View.{View, IsWhole}
use Rattle.st_simulation.proofs.Same.{TransitionSame}
use Rattle.st_simulation.proofs.BytecodesSame.{step-same}
use Rattle.st_simulation.proofs.HeapsSame.{cycle_simulation, same_used}
use Rattle.st_simulation.proofs.Started.{naming, states_start}
use Rattle.st_model.proofs.Raised.{raised_shown}
use Rattle.st_simulation.proofs.CyclesShown.{foretells}
use Rattle.st_frames.specs.declared.frame.Frame.{Frame}
use Rattle.st_frames.specs.inside.Shown.{shown, IsReady}
use Rattle.st_frames.proofs.Closed.{is_closed}

-- Died of one cause; or done, with as much used.
abbrev pub Linked : Transition (State Table) Outcome → Transition (State Table) Outcome → Type 0
Linked (Died cause) x = x ≡ Died cause
Linked (Went o d) x = (p : Outcome) × (e : State Table) × (x ≡ Went p e) × (used apart e.memory ≡ used table d.memory)

module _ (c : State Table) (s : State Births) (w : Shows c s) where
  link : (o : Transition (State Births) Outcome) (p x : Transition (State Table) Outcome) → TransitionSame (cycle_simulation (naming c s w)) (IsLiveOutcome (naming c s w).live) (renamed_outcome (naming c s w).name) o p
      → Foretells x o → Linked p x
  link (Died a) (Died b) (Died k) (inl h) f = ap (λ y. Died y) (f ∙ sym h)
  link (Died a) (Died b) (Died k) (inr h) f = absurd h
  link (Died a) (Died b) (Went q e) h f = absurd f
  link (Died a) (Went b t) x h f = absurd h
  link (Went a u) (Died b) x h f = absurd h.1
  link (Went a u) (Went b d) x (inl h) f = absurd h.1
  link (Went a u) (Went b d) (Died k) (inr h) f = absurd f
  link (Went a u) (Went b d) (Went q e) (inr h) f = (q, e, refl, f ∙ sym (same_used (naming c s w) u.memory d.memory h.2.memory))

  linked_from : length c.memory ≡ 32768 → Linked ((step table).run c) ((step apart).run c)
  linked_from places =
      link ((step births).run s) ((step table).run c) ((step apart).run c) ((step-same (cycle_simulation (naming c s w)) tt).go s c (states_start c s w)) (foretells c s w places)

pub linked : (v : View) (f : Frame) (w : World) → IsWhole v → IsReady v f w → Linked ((step table).run (shown v f w)) ((step apart).run (shown v f w))
linked v f w whole ready =
    let c = shown v f w in
    linked_from c (raised c) (raised_shown c (is_closed v f w whole ready)) whole.places
