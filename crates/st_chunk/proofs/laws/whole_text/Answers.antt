use Rattle.st_chunk.proofs.Joined.{joined_cut}
use Rattle.st_chunk.proofs.laws.whole_text.Goals as goal

pub returns : goal.returns
returns c = joined_cut
