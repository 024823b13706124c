use Rattle.st_heap.proofs.Taking.{tied_given}
use Rattle.st_machine_tests.proofs.heap.leave_hole.Goals as goal

pub returns-then-has : goal.returns-then-has
returns-then-has c =
    rw (c.free_entry.ensures, c.give.ensures.blocks) (tied_given _ _ _ _ c.make.new.t c.in_ok-o.o c.entry.result c.make.new.heap.laid c.make.ensures.tied c.entry.ensures)
