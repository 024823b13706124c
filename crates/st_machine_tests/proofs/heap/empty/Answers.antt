use Rattle.std.proofs.Common.{◌+◌, ◌/◌}
use Rattle.st_heap.proofs.Taking.{tied_new}
use Rattle.st_machine_tests.proofs.heap.empty.Goals as goal

pub returns : goal.returns
returns c = rw (c.in_ok-t.ensures, c.in_ok-heap.ensures.blocks) (tied_new 11 (c.args.words / 2 + 1))
