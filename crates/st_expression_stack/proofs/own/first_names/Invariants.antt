use Rattle.std.proofs.Common.{◌≡◌, length}
use Rattle.st_expression_stack.specs.inside.Called.{is_kept, AreFirst}
use Rattle.st_expression_stack.specs.Names.{own_number}
use Rattle.st_expression_stack.proofs.own.first_names.Given as goal

abbrev pub invariant-loop-i : goal.invariant-loop-i
invariant-loop-i l = record {
  number : l.number ≡ own_number (is_kept l.taken.names.keys) l.taken.count l.i;
  many : length l.texts.items ≡ l.i;
  first : AreFirst l.taken l.texts.items;
}
