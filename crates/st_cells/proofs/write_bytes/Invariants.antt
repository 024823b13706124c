use Rattle.std.proofs.Common.{◌≡◌, ◌+◌, drop}
use Rattle.st_cells.specs.inside.Words.{with_bytes}
use Rattle.st_cells.proofs.write_bytes.Given as goal

-- what is left to be written makes the same of the words
abbrev pub invariant-loop-k : goal.invariant-loop-k
invariant-loop-k l = record {
  left : with_bytes l.list l.at (l.first + l.k) (drop l.k l.bytes) ≡ with_bytes l.fn.list l.at l.first l.bytes;
}
