use Rattle.std.proofs.Common.{◌≡◌}
use Rattle.st_machine_tests.proofs.machines.make_process.Given as goal

-- the memory holds what it held
abbrev pub invariant-loop-class : goal.invariant-loop-class
invariant-loop-class g l = (g.M.Memory.view l.m).held ≡ (g.M.Memory.view l.initial.m).held
