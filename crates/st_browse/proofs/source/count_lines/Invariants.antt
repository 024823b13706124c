use Rattle.std.proofs.Common.{◌≡◌, ◌+◌, ◌≤◌, length, take}
use Rattle.st_browse.specs.Sources.{lines_of}
use Rattle.st_browse.proofs.source.count_lines.Given as goal

-- the lines so far were counted
abbrev pub invariant-loop-byte : goal.invariant-loop-byte
invariant-loop-byte l = record {
  exact : l.count ≡ length (lines_of (take l.byte-index l.text));
  most : l.count ≤ l.byte-index + 1;
}
