use Rattle.std.proofs.Common.{◌≡◌, ◌*◌, ◌≤◌, length, take}
use Rattle.st_chunk.specs.Texts.{doubled}
use Rattle.st_chunk.proofs.doubling.double_into.Given as goal

abbrev pub invariant-loop-byte : goal.invariant-loop-byte
invariant-loop-byte l = record {
  bytes : take l.used l.buffer ≡ doubled (take l.byte-index l.piece);
  few : l.used ≤ 2 * l.byte-index;
  long : l.used ≡ length (doubled (take l.byte-index l.piece));
}
