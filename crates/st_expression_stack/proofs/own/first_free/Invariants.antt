use Rattle.std.proofs.Common.{◌≡◌, ◌-◌}
use Rattle.st_expression_stack.specs.inside.Called.{is_kept}
use Rattle.st_expression_stack.specs.Names.{first_free}
use Rattle.st_expression_stack.proofs.own.first_free.Given as goal

abbrev pub invariant-loop-i : goal.invariant-loop-i
invariant-loop-i l = first_free (is_kept l.taken.names.keys) (l.taken.count - l.i) l.number ≡ first_free (is_kept l.taken.names.keys) l.taken.count l.from
