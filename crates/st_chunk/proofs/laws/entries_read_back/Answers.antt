use Rattle.st_chunk.proofs.Entries.{read_back, blanks_behind}
use Rattle.st_chunk.proofs.laws.entries_read_back.Goals as goal

pub returns : goal.returns
returns c = record { back = read_back; rest = blanks_behind }
