use Rattle.st_chunk.proofs.Sound.{class_side_short}
use Rattle.st_chunk.proofs.heading.side.Goals as goal

pub returns-clause-within : goal.returns-clause-within
returns-clause-within c = class_side_short _ _ c.in-Some.ensures
