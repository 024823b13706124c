use Rattle.std.proofs.Common.{◌≡◌, drop}
use Rattle.st_scan.specs.Views.{statements_view}
use Rattle.st_emit.specs.inside.Shapes.{returning}
use Rattle.st_emit.proofs.shape.returning.Given as goal

abbrev pub invariant-loop-s : goal.invariant-loop-s
invariant-loop-s l = returning (statements_view (drop l.s-index l.statements)) ≡ returning (statements_view l.statements)
