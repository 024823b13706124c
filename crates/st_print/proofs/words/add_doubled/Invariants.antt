use Rattle.std.proofs.Common.{◌≡◌, ◌++◌, drop}
use Rattle.st_scan.specs.Pieces.{doubled}
use Rattle.st_print.proofs.words.add_doubled.Given as goal

abbrev pub invariant-loop-byte : goal.invariant-loop-byte
invariant-loop-byte l = l.out.items ++ doubled (drop l.byte-index l.text) ≡ l.fn.out.items ++ doubled l.text
