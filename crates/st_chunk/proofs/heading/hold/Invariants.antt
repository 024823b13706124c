use Rattle.std.proofs.Common.{◌≡◌, take}
use Rattle.st_chunk.proofs.heading.hold.Given as goal

abbrev pub invariant-loop-byte : goal.invariant-loop-byte
invariant-loop-byte l = l.held ≡ take l.byte-index l.bytes
