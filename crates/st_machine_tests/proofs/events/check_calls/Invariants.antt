use Rattle.st_frames.specs.Naming.{IsNaming}
use Rattle.st_machine_tests.proofs.events.check_calls.Given as goal

-- the memory holds what the world names
abbrev pub invariant-loop-number : goal.invariant-loop-number
invariant-loop-number g l = IsNaming (g.M.Memory.view l.m).held l.w
