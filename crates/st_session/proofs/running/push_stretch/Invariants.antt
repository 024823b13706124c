use Rattle.std.proofs.Common.{◌≡◌, ◌≤◌, ◌-◌, None}
use Rattle.st_model.specs.Machine.{State}
use Rattle.st_model.specs.Births.{Births}
use Rattle.st_model.specs.Show.{Shows}
use Rattle.st_frames.specs.inside.Shown.{IsReady}
use Rattle.st_session.specs.inside.Standing.{shown_by}
use Rattle.st_session.proofs.Cycles.{SaidSoFar}
use Rattle.st_session.proofs.running.push_stretch.Given as goal

-- what was shown first is shown after the cycles so far, with what is said of them
abbrev pub invariant-cycles : goal.invariant-cycles
invariant-cycles g l = record {
  ready : IsReady (g.M.Memory.view l.machine.memory) l.machine.frame l.machine.world;
  alive : l.machine.death ≡ None;
  later : l.fn.finished ≤ l.finished;
  few : l.finished ≤ l.cycles;
  said : (s : State Births) → Shows (shown_by g.M.Memory.view l.fn.machine) s
      → SaidSoFar g.H.Host l.cycles l.fn.finished s l.finished (shown_by g.M.Memory.view l.machine) l.fn.host l.host l.fn.out l.out;
}

abbrev pub decreases-cycles : goal.decreases-cycles
decreases-cycles g l = l.cycles - l.finished
