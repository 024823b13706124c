use Rattle.std.proofs.Common.{◌≡◌, ◌≤◌, drop}
use Rattle.st_chunk.specs.Lines.{digits_after}
use Rattle.st_chunk.proofs.line.read_number.Given as goal

-- the digits so far gave n, and more of them go on from it
abbrev pub invariant-loop-digit : goal.invariant-loop-digit
invariant-loop-digit l = record {
  value : digits_after 0 l.word ≡ digits_after l.n (drop l.digit-index l.word);
  most : l.n ≤ l.limit;
}
