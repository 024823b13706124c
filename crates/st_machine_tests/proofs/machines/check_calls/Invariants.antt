use Rattle.std.proofs.Common.{◌≡◌, None}
use Rattle.st_frames.specs.inside.Shown.{IsReady}
use Rattle.st_machine_tests.proofs.machines.check_calls.Given as goal

-- a machine that is alive is ready
abbrev pub invariant-loop-number : goal.invariant-loop-number
invariant-loop-number g l = l.machine.death ≡ None → IsReady (g.M.Memory.view l.machine.memory) l.machine.frame l.machine.world
