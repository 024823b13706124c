use Rattle.std.proofs.Common.{◌≡◌, ◌*◌, ◌≤◌, length, take}
use Rattle.st_changes.specs.inside.Runs.{doubled_by}
use Rattle.st_changes.proofs.writing.doubled_length.Given as goal

abbrev pub invariant-loop-byte : goal.invariant-loop-byte
invariant-loop-byte l = record {
  exact : l.length ≡ length (doubled_by l.mark (take l.byte-index l.bytes));
  most : l.length ≤ 2 * l.byte-index;
  least : l.byte-index ≤ l.length;
}
