use Rattle.std.proofs.Common.{◌≡◌, ◌+◌, ◌*◌, ◌<◌, ◌≤◌, max, take, drop, length}
use denote.Param.Weighed.{most}
use Rattle.st_scan.specs.declared.tree.Expression.{size-Expression}
use Rattle.st_scan.specs.declared.tree.Message.{size-Message}
use Rattle.st_scan.specs.declared.tree.Statement.{size-Statement}
use Rattle.st_scan.specs.Views.{expression_view, expressions_view, messages_view, statements_view}
use Rattle.st_scan.specs.inside.Chains.{linked, links_view, link_size, links_size}
use Rattle.st_emit.specs.Resolving.{names_in, names_in_all, names_in_messages, names_in_statements}
use Rattle.st_emit.specs.inside.Around.{context, at_number, values_part, cascade_part, body_part, value_part}
use Rattle.st_emit.specs.inside.Drafts.{Adds, Goes}
use Rattle.st_emit.specs.Nodes.{is_above}
use Rattle.st_emit.specs.inside.Sizes.{side_size}
use Rattle.st_emit.proofs.value.+emitting.Given as goal

abbrev pub decreases-choice : goal.decreases-choice
decreases-choice l = 32 * max (most size-Statement l.form.first.now) (side_size l.form.other) + 28

abbrev pub decreases-side : goal.decreases-side
decreases-side l = 32 * side_size l.other + 27

abbrev pub decreases-looped : goal.decreases-looped
decreases-looped l = 32 * max (most size-Statement l.repetition.condition.now) (most size-Statement l.repetition.body.now) + 26

abbrev pub decreases-block : goal.decreases-block
decreases-block l = 32 * most size-Statement l.statements.now + 26

abbrev pub decreases-block_body : goal.decreases-block_body
decreases-block_body l = 32 * most size-Statement l.statements.now + 25

abbrev pub decreases-body : goal.decreases-body
decreases-body l = 32 * most size-Statement l.statements.now + 24

abbrev pub decreases-leading : goal.decreases-leading
decreases-leading l = 32 * most size-Statement l.statements.now + 23

abbrev pub decreases-last : goal.decreases-last
decreases-last l = 32 * most size-Statement l.statements.now + 23

abbrev pub decreases-effect : goal.decreases-effect
decreases-effect l = 32 * size-Expression l.e.now + 22

abbrev pub decreases-returned : goal.decreases-returned
decreases-returned l = 32 * size-Expression l.e.now + 22

abbrev pub decreases-values : goal.decreases-values
decreases-values l = 32 * most size-Expression l.es.now + 22

abbrev pub decreases-value : goal.decreases-value
decreases-value l = 32 * size-Expression l.e.now + 20

abbrev pub decreases-follow : goal.decreases-follow
decreases-follow l = 32 * max (size-Expression l.first.now) (links_size l.links.now) + 19

abbrev pub decreases-beginning : goal.decreases-beginning
decreases-beginning l = 32 * max (size-Expression l.first.now) (links_size l.links.now) + 18

abbrev pub decreases-linked : goal.decreases-linked
decreases-linked l = 32 * link_size l.link + 18

abbrev pub decreases-cascade : goal.decreases-cascade
decreases-cascade l = 32 * most size-Message l.messages.now + 17

abbrev pub decreases-sent : goal.decreases-sent
decreases-sent l = 32 * size-Message l.m.now + 17

abbrev pub decreases-message : goal.decreases-message
decreases-message l = 32 * size-Message l.m.now + 16

abbrev pub decreases-start : goal.decreases-start
decreases-start l = 32 * size-Expression l.e.now + 15

abbrev pub invariant-values-loop-e : goal.invariant-values-loop-e
invariant-values-loop-e l = record {
  added : Goes (values_part (context (at_number l.next l.around)) (expressions_view (drop l.e-index l.es))) l.draft (values_part (context l.around) (expressions_view l.es)) l.fn.draft;
  next : l.next + names_in_all (expressions_view (drop l.e-index l.es)) ≡ l.around.next + names_in_all (expressions_view l.es);
}

abbrev pub invariant-cascade-loop-m : goal.invariant-cascade-loop-m
invariant-cascade-loop-m l = record {
  added : Goes (cascade_part (is_above l.lookup) (context (at_number l.next l.around)) (messages_view l.rest)) l.draft (cascade_part (is_above l.lookup) (context l.around) (messages_view l.fn.messages)) l.fn.draft;
  next : l.next + names_in_messages (messages_view l.rest) ≡ l.around.next + names_in_messages (messages_view l.fn.messages);
  within : most size-Message l.rest ≤ most size-Message l.fn.messages;
  short : length l.rest ≤ length l.fn.messages;
}

abbrev pub decreases-cascade-loop-m : goal.decreases-cascade-loop-m
decreases-cascade-loop-m l = length l.rest

abbrev pub invariant-leading-loop-first : goal.invariant-leading-loop-first
invariant-leading-loop-first l = record {
  added : Goes (body_part (context (at_number l.next l.around)) (statements_view l.rest)) l.draft (body_part (context l.around) (statements_view l.fn.statements)) l.fn.draft;
  next : l.next + names_in_statements (statements_view l.rest) ≡ l.around.next + names_in_statements (statements_view l.fn.statements);
  some : 0 < length l.rest;
  within : most size-Statement l.rest ≤ most size-Statement l.fn.statements;
}

abbrev pub decreases-leading-loop-first : goal.decreases-leading-loop-first
decreases-leading-loop-first l = length l.rest

abbrev pub invariant-follow-loop-i : goal.invariant-follow-loop-i
invariant-follow-loop-i l =
    let so_far = linked (expression_view l.first) (links_view (take l.i l.links)) in
    record {
      added : Adds (value_part (context l.around) so_far) l.fn.draft l.draft;
      next : l.next ≡ l.around.next + names_in so_far;
    }
