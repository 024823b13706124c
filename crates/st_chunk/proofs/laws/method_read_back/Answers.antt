use Rattle.st_chunk.proofs.Entries.{method_first}
use Rattle.st_chunk.proofs.laws.method_read_back.Goals as goal

pub returns : goal.returns
returns c = method_first
