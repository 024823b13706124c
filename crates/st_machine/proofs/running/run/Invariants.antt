use Rattle.std.proofs.Common.{◌≤◌, ◌-◌}
use Rattle.st_model.specs.Machine.{State}
use Rattle.st_model.specs.Births.{Births}
use Rattle.st_model.specs.Show.{Shows}
use Rattle.st_frames.specs.inside.Shown.{shown, IsReady}
use Rattle.st_machine.specs.inside.Strides.{SoFar}
use Rattle.st_machine.proofs.running.run.Given as goal

-- what was shown at the start is shown after the cycles so far
abbrev pub invariant-cycles : goal.invariant-cycles
invariant-cycles g l = record {
  ready : IsReady (g.M.Memory.view l.m) l.f l.w;
  shows : (s : State Births) → Shows (shown (g.M.Memory.view l.fn.m) l.fn.f l.fn.w) s → SoFar l.done s (shown (g.M.Memory.view l.m) l.f l.w);
  most : l.done ≤ l.n;
}

abbrev pub decreases-cycles : goal.decreases-cycles
decreases-cycles g l = l.n - l.done
