-- Stretches of cycles, and what follows them.
use Rattle.std.proofs.Common.{◌≡◌, ℕ, ◌+◌, Option, Some, None, Ok}
use Rattle.std.specs.Prelude.{Result}
use Rattle.st_model.specs.declared.dead.Dead.{Dead}
use Rattle.st_model.specs.declared.deed.Deed.{Deed}
use Rattle.st_model.specs.Outcomes.{Ending, With}
use Rattle.st_model.specs.Outcomes as outcome
use Rattle.st_model.specs.Machine.{State, World, Transition, Went}
use Rattle.st_model.specs.Births.{Births}
use Rattle.st_model.specs.Table.{Table}
use Rattle.st_model.specs.View.{View, IsWhole}
use Rattle.st_model.specs.inside.Calls.{transition_of}
use Rattle.st_model.specs.inside.Foreseen.{foreseen_cycle, IsSound}
use Rattle.st_frames.specs.declared.frame.Frame.{Frame}
use Rattle.st_frames.specs.inside.Shown.{shown, IsReady}
use Rattle.st_frames.proofs.Closed.{is_closed}
use Rattle.st_machine.specs.declared.cycling.CycleEnd.{CycleEnd}
use Rattle.st_machine.specs.declared.doing.StretchEnd.{StretchEnd}
use Rattle.st_machine.specs.inside.Cycling.{IsCalm, GoesCalmly, Follows, foreseen_step}
use Rattle.st_machine.specs.inside.Runs.{ending_of}
use Rattle.st_machine.specs.inside.Strides.{SoFar, NextEnds, LastGoes}
use Rattle.st_machine.proofs.Calm.{calm_cycle}
use Rattle.st_machine.proofs.Foreseeing.{followed}
use Rattle.st_machine.proofs.Runs.{shown_next, one_more}

module _ (v : View) (f : Frame) (w : World) (whole : IsWhole v) (ready : IsReady v f w) where
  sound : IsSound (shown v f w)
  sound = record { places = whole.places; closed = is_closed v f w whole ready }

  -- the next cycle of a memory that is ready
  pub ready_next : (k : ℕ) (s : State Births) (x : Result CycleEnd Dead) (d : State Table) → SoFar k s (shown v f w) → foreseen_cycle (shown v f w) ≡ transition_of ending_of x d
      → NextEnds k s (transition_of ending_of x d)
  ready_next k s x d far e = shown_next k s (shown v f w) sound whole.most_entries far (transition_of ending_of x d) e

  -- one in a calm world
  pub calm_next : (k : ℕ) (s : State Births) (o : Transition (State Table) Ending) → IsCalm w → SoFar k s (shown v f w) → foreseen_step (shown v f w) ≡ o → NextEnds k s o
  calm_next k s o calm far e = shown_next k s (shown v f w) sound whole.most_entries far o (calm_cycle (shown v f w) o calm e)

  pub calm_goes : (k : ℕ) (s : State Births) (left : Deed) (d : State Table) → IsCalm w → SoFar k s (shown v f w) → GoesCalmly (shown v f w) left (Ok None) d → SoFar (k + 1) s d
  calm_goes k s left d calm far e = one_more k s d (calm_next k s (Went (With outcome.Went) d) calm far e)

  -- one that ends a stretch
  pub calm_ends : (k : ℕ) (s : State Births) (left : Deed) (x : Result (Option StretchEnd) Dead) (d : State Table) → IsCalm w → SoFar k s (shown v f w) → GoesCalmly (shown v f w) left x d
      → LastGoes k s left x d
  calm_ends k s left x d calm far h = record { from = shown v f w; ends = λ o e. calm_next k s o calm far e; goes = h }

-- the rest of the cycle that ended a stretch
pub rest_ends : (k : ℕ) (s : State Births) (left : Deed) (end : StretchEnd) (c : State Table) (x : Result CycleEnd Dead) (d : State Table)
    → LastGoes k s left (Ok (Some end)) c → Follows left end c x d → NextEnds k s (transition_of ending_of x d)
rest_ends k s left end c x d h l = h.ends (transition_of ending_of x d) (followed h.from c d left x end h.goes l)
