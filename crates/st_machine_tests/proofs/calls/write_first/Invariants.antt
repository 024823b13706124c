use Rattle.std.proofs.Common.{◌≡◌}
use Rattle.st_machine_tests.proofs.calls.write_first.Given as goal

-- the memory holds what it held
abbrev pub invariant-loop-v : goal.invariant-loop-v
invariant-loop-v g l = (g.M.Memory.view l.m).held ≡ (g.M.Memory.view l.initial.m).held
