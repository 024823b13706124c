use Rattle.st_cells.specs.inside.Words.{ReadsBytes}
use Rattle.st_cells.proofs.Cells.read_bytes.Given as goal

abbrev pub invariant-loop-k : goal.invariant-loop-k
invariant-loop-k l = record { read : ReadsBytes l.self l.at l.first l.k l.into }
