use Rattle.std.proofs.Common.{◌≡◌, ◌≤◌, ◌-◌, None}
use Rattle.st_model.specs.Machine.{State}
use Rattle.st_model.specs.Births.{Births}
use Rattle.st_model.specs.Show.{Shows}
use Rattle.st_frames.specs.inside.Shown.{IsReady}
use Rattle.st_session.specs.inside.Standing.{shown_by}
use Rattle.st_session.proofs.Stretches.{PushedSoFar}
use Rattle.st_session.proofs.running.push_run.Given as goal

-- what was shown first is shown after the stretches so far, with what is said of them
abbrev pub invariant-stretches : goal.invariant-stretches
invariant-stretches g l = record {
  ready : IsReady (g.M.Memory.view l.machine.memory) l.machine.frame l.machine.world;
  alive : l.machine.death ≡ None;
  few : l.finished ≤ l.cycles;
  said : (s : State Births) → Shows (shown_by g.M.Memory.view l.fn.machine) s
      → PushedSoFar g.H.Host l.cycles s l.finished (shown_by g.M.Memory.view l.machine) l.fn.host l.host l.fn.out l.out;
}

abbrev pub decreases-stretches : goal.decreases-stretches
decreases-stretches g l = l.cycles - l.finished
