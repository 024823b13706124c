use Rattle.std.proofs.Common.{◌≡◌}
use Rattle.st_expression_stack.specs.inside.Called.{is_kept}
use Rattle.st_expression_stack.specs.Names.{own_number}
use Rattle.st_expression_stack.proofs.own.own_number.Given as goal

abbrev pub invariant-loop-i : goal.invariant-loop-i
invariant-loop-i l = l.number ≡ own_number (is_kept l.taken.names.keys) l.taken.count l.i
