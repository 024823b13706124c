use Rattle.st_heap.specs.inside.Blocks.{IsTied}
use Rattle.st_heap.specs.inside.Heaps.{blocks_of}
use Rattle.st_machine_tests.proofs.heap.check_calls.Given as goal

-- owners and entries are tied
abbrev pub invariant-loop-number : goal.invariant-loop-number
invariant-loop-number g l = IsTied l.t (blocks_of l.heap)
