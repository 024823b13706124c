use Rattle.std.proofs.Common.{◌≡◌, take, Ok}
use Rattle.st_chunk.specs.Scripts.{told_from, read_through}
use Rattle.st_session.proofs.Requests.{Answers_all}
use Rattle.st_session.proofs.reading.feed_all.Given as goal

-- what the bytes so far tell was done
abbrev pub invariant-loop-byte : goal.invariant-loop-byte
invariant-loop-byte g l = record {
  reader : l.reader ≡ read_through l.fn.reader (take l.byte-index l.bytes);
  serves : Answers_all g.M.Memory.view g.H.Host (told_from l.fn.reader (take l.byte-index l.bytes)) l.fn.kept l.fn.host (Ok tt) l.kept l.host;
}
