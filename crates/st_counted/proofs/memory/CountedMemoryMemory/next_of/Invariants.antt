use Rattle.std.proofs.Common.{◌-◌}
use Rattle.st_model.specs.Values.{value}
use Rattle.st_counted.specs.inside.Counted.{counted_view}
use Rattle.st_counted.proofs.Instances.{HasNone}
use Rattle.st_counted.proofs.memory.CountedMemoryMemory.next_of.Given as goal

-- no instance so far
abbrev pub invariant-loop-o : goal.invariant-loop-o
invariant-loop-o l = HasNone (counted_view l.self.contents).objects (value l.class) l.fn.after l.after

abbrev pub decreases-loop-o : goal.decreases-loop-o
decreases-loop-o l = 65536 - l.after
