use Rattle.st_model.specs.Values.{value}
use Rattle.st_bitblt.specs.inside.Copied.{object_of_source}
use Rattle.st_bitblt.specs.inside.Rows.{RowsCopied}
use Rattle.st_bitblt.proofs.RowLaws.{DownTo}
use Rattle.st_bitblt.proofs.rows.copy_rows.Given as goal

abbrev pub invariant-loop-j : goal.invariant-loop-j
invariant-loop-j g l = RowsCopied l.pen (object_of_source l.ends.source) (value l.ends.dest) (g.M.Memory.view l.fn.m) (g.M.Memory.view l.m) l.a (DownTo l.a l.j)
