use Rattle.std.proofs.Common.{◌≡◌, ◌+◌, ◌≤◌, drop}
use Rattle.st_scan.specs.declared.tree.Expression.{size-Expression}
use Rattle.st_scan.specs.Views.{expression_view, expressions_view, messages_view, statements_view}
use Rattle.st_emit.specs.Resolving.{names_in, names_in_all, names_in_messages, names_in_statements}
use Rattle.st_emit.proofs.counting.+counting.Given as goal

abbrev pub invariant-names_in_all-loop-e : goal.invariant-names_in_all-loop-e
invariant-names_in_all-loop-e l = l.total + names_in_all (expressions_view (drop l.e-index l.es)) ≡ l.start + names_in_all (expressions_view l.es)

abbrev pub invariant-names_in_messages-loop-m : goal.invariant-names_in_messages-loop-m
invariant-names_in_messages-loop-m l = l.total + names_in_messages (messages_view (drop l.m-index l.messages)) ≡ l.start + names_in_messages (messages_view l.messages)

abbrev pub invariant-names_in-down : goal.invariant-names_in-down
invariant-names_in-down l = record {
  total : l.total + names_in (expression_view l.inner) ≡ l.start + names_in (expression_view l.fn.e);
  within : size-Expression l.inner ≤ size-Expression l.fn.e;
}

abbrev pub invariant-names_in_statements-loop-s : goal.invariant-names_in_statements-loop-s
invariant-names_in_statements-loop-s l = l.total + names_in_statements (statements_view (drop l.s-index l.statements)) ≡ l.start + names_in_statements (statements_view l.statements)
