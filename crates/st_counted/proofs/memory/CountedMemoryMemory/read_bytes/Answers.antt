use Rattle.std.proofs.Common.{◌+◌, length}
use Rattle.st_model.specs.Values.{value}
use Rattle.st_model.specs.View.{object_of}
use Rattle.st_counted.specs.inside.Counted.{counted_view}
use Rattle.st_counted.proofs.Stretches.{units_end}
use Rattle.st_counted.proofs.memory.CountedMemoryMemory.read_bytes.Goals as goal

pub read_bytes-requires-clause-range : goal.read_bytes-requires-clause-range
read_bytes-requires-clause-range c = units_end (object_of (counted_view c.args.self.now.contents).objects (value c.args.o)) (c.args.at + length c.args.into.now) c.requires.range
