use Rattle.st_frames.specs.Naming.{IsNaming}
use Rattle.st_machine_tests.proofs.events.add_signals.Given as goal

-- the memory holds what the world names
abbrev pub invariant-loop : goal.invariant-loop
invariant-loop g l = IsNaming (g.M.Memory.view l.m).held l.w
