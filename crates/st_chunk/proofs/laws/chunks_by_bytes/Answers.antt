use Rattle.st_chunk.proofs.Reading.{by_bytes}
use Rattle.st_chunk.proofs.laws.chunks_by_bytes.Goals as goal

pub returns : goal.returns
returns c = by_bytes
