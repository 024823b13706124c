use Rattle.std.proofs.Common.{◌≡◌, ◌+◌, drop}
use Rattle.st_scan.specs.Views.{statements_view}
use Rattle.st_emit.specs.Resolving.{names_in_statements}
use Rattle.st_emit.specs.inside.Around.{context, at_number, method_part}
use Rattle.st_emit.specs.inside.Drafts.{Goes}
use Rattle.st_emit.proofs.value.method_body.Given as goal

abbrev pub invariant-loop-statement : goal.invariant-loop-statement
invariant-loop-statement l = record {
  added : Goes (method_part (context (at_number l.next l.around)) (statements_view (drop l.statement-index l.statements))) l.draft (method_part (context l.around) (statements_view l.statements)) l.fn.draft;
  next : l.next + names_in_statements (statements_view (drop l.statement-index l.statements)) ≡ l.around.next + names_in_statements (statements_view l.statements);
}
