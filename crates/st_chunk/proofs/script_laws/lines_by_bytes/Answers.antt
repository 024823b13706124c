use Rattle.st_chunk.proofs.WholeLines.{whole_line}
use Rattle.st_chunk.proofs.script_laws.lines_by_bytes.Goals as goal

pub returns : goal.returns
returns c = whole_line
