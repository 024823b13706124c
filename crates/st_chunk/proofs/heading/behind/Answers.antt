use Rattle.st_chunk.proofs.Words.{stripped}
use Rattle.st_chunk.proofs.heading.behind.Goals as goal

pub returns : goal.returns
returns c = stripped c.args.front.now c.args.text.now c.strip_prefix.result c.strip_prefix.ensures.cases
