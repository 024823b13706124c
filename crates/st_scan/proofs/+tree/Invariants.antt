-- what is left of an expression is no deeper
use Rattle.std.proofs.Common.{◌≤◌}
use Rattle.st_scan.specs.declared.tree.Expression.{size-Expression}
use Rattle.st_scan.proofs.+tree.Given as goal

abbrev pub invariant-tree::Expression::drop-down : goal.invariant-tree::Expression::drop-down
invariant-tree::Expression::drop-down l = size-Expression l.self ≤ size-Expression l.initial.self
