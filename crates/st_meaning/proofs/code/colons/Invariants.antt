use Rattle.std.proofs.Common.{◌≡◌, ◌+◌, ◌≤◌, drop}
use Rattle.st_emit.specs.Selectors.{colons}
use Rattle.st_meaning.proofs.code.colons.Given as goal

abbrev pub invariant-loop-byte : goal.invariant-loop-byte
invariant-loop-byte l = record {
  counted : l.colons + colons (drop l.byte-index l.text) ≡ colons l.text;
  few : l.colons ≤ l.byte-index;
}
