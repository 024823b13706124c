use Rattle.std.proofs.Common.{◌≡◌}
use Rattle.st_machine_tests.proofs.machines.fill_process.Given as goal

-- the memory holds what it held
abbrev pub invariant-loop-object : goal.invariant-loop-object
invariant-loop-object g l = (g.M.Memory.view l.m).held ≡ (g.M.Memory.view l.initial.m).held
