use Rattle.st_chunk.specs.inside.Progress.{reading_of}
use Rattle.st_chunk.proofs.Places.{sound_end, browsed_end, defined_end, range_end}
use Rattle.st_chunk.proofs.reader.Reader.finish.Goals as goal

pub invariant_of-self : goal.invariant_of-self
invariant_of-self c =
    (c.finish.ensures.kept, sound_end (reading_of c.self.inside.progress) (reading_of c.finish.new.self) c.finish.result c.self.invariant.1 c.finish.ensures.tells)

pub returns-clause-browsed : goal.returns-clause-browsed
returns-clause-browsed c = browsed_end (reading_of c.self.inside.progress) (reading_of c.finish.new.self) c.finish.result c.self.invariant.1 c.finish.ensures.tells

pub returns-clause-defined : goal.returns-clause-defined
returns-clause-defined c = defined_end (reading_of c.self.inside.progress) (reading_of c.finish.new.self) c.finish.result c.self.invariant.1 c.finish.ensures.tells

pub returns-clause-range : goal.returns-clause-range
returns-clause-range c = range_end (reading_of c.self.inside.progress) (reading_of c.finish.new.self) c.finish.result c.self.invariant.1 c.finish.ensures.tells
