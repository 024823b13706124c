use Rattle.st_chunk.specs.inside.Progress.{reading_of}
use Rattle.st_chunk.proofs.Places.{sound_read, browsed_read, defined_read, range_read}
use Rattle.st_chunk.proofs.reader.Reader.feed.Goals as goal

pub invariant_of-self : goal.invariant_of-self
invariant_of-self c =
    (c.read.ensures.kept, sound_read (reading_of c.self.inside.progress) c.args.byte (reading_of c.read.new.self) c.read.result c.self.invariant.1 c.read.ensures.tells)

pub returns-clause-browsed : goal.returns-clause-browsed
returns-clause-browsed c = browsed_read (reading_of c.self.inside.progress) c.args.byte (reading_of c.read.new.self) c.read.result c.self.invariant.1 c.read.ensures.tells

pub returns-clause-defined : goal.returns-clause-defined
returns-clause-defined c = defined_read (reading_of c.self.inside.progress) c.args.byte (reading_of c.read.new.self) c.read.result c.self.invariant.1 c.read.ensures.tells

pub returns-clause-range : goal.returns-clause-range
returns-clause-range c = range_read (reading_of c.self.inside.progress) c.args.byte (reading_of c.read.new.self) c.read.result c.self.invariant.1 c.read.ensures.tells
