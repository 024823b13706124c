use Rattle.st_model.specs.Values.{value}
use Rattle.st_model.proofs.WholeLemmas.{field_known}
use Rattle.st_counted.specs.inside.Counted.{counted_view}
use Rattle.st_counted.proofs.Units.{header_read}
use Rattle.st_counted.proofs.memory.CountedMemoryMemory.pointer.Goals as goal

pub returns-clause-header : goal.returns-clause-header
returns-clause-header c = header_read (counted_view c.args.self.now.contents) (value c.args.o) (value c.field.result) c.args.at c.args.self.now.whole c.requires.live c.field.ensures

pub returns-clause-known : goal.returns-clause-known
returns-clause-known c = field_known (counted_view c.args.self.now.contents) c.args.self.now.whole (value c.args.o) c.requires.live c.args.at (value c.field.result) c.field.ensures
