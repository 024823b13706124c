use Rattle.std.proofs.Common.{◌≡◌, ◌+◌, ◌*◌, max, Bool, drop}
use denote.Param.Weighed.{most}
use Rattle.st_scan.specs.declared.tree.Expression.{size-Expression}
use Rattle.st_scan.specs.declared.tree.Message.{size-Message}
use Rattle.st_scan.specs.declared.tree.Statement.{size-Statement}
use Rattle.st_scan.specs.inside.Chains.{link_size, links_size}
use Rattle.st_emit.specs.inside.Around.{at_number}
use Rattle.st_emit.specs.Nodes.{is_above}
use Rattle.st_emit.specs.inside.Emits.{after_all, after_messages, after_statements, after_begun}
use Rattle.st_meaning.specs.inside.Meant.{IsArguments, IsMessages, IsBehind, IsChain}
use Rattle.st_meaning.specs.inside.Sketches.{arguments_naming, cascade_naming, body_naming, begun_naming, Builds}
use Rattle.st_meaning.proofs.Sketching.{GoesOn}
use Rattle.st_meaning.proofs.sketch.+sketching.Given as goal

abbrev pub decreases-two_sided : goal.decreases-two_sided
decreases-two_sided l = 32 * max (most size-Statement l.a.now) (most size-Statement l.b.now) + 28

abbrev pub decreases-looped : goal.decreases-looped
decreases-looped l = 32 * max (most size-Statement l.repetition.condition.now) (most size-Statement l.repetition.body.now) + 26

abbrev pub decreases-body : goal.decreases-body
decreases-body l = 32 * most size-Statement l.statements.now + 24

abbrev pub decreases-arguments : goal.decreases-arguments
decreases-arguments l = 32 * most size-Expression l.es.now + 23

abbrev pub decreases-value : goal.decreases-value
decreases-value l = 32 * size-Expression l.e.now + 22

abbrev pub decreases-follow : goal.decreases-follow
decreases-follow l = 32 * max (size-Expression l.first.now) (links_size l.links.now) + 21

abbrev pub decreases-beginning : goal.decreases-beginning
decreases-beginning l = 32 * max (size-Expression l.first.now) (links_size l.links.now) + 20

abbrev pub decreases-linked : goal.decreases-linked
decreases-linked l = 32 * link_size l.link + 20

abbrev pub decreases-sends : goal.decreases-sends
decreases-sends l = 32 * most size-Message l.messages.now + 19

abbrev pub decreases-cascade : goal.decreases-cascade
decreases-cascade l = 32 * most size-Message l.messages.now + 18

abbrev pub decreases-sent : goal.decreases-sent
decreases-sent l = 32 * size-Message l.m.now + 18

abbrev pub decreases-message : goal.decreases-message
decreases-message l = 32 * size-Message l.m.now + 17

abbrev pub invariant-arguments-loop-e : goal.invariant-arguments-loop-e
invariant-arguments-loop-e l = record {
  goes : GoesOn (arguments_naming (at_number l.next l.around) (drop l.e-index l.es)) (arguments_naming l.around l.es) IsArguments l.places.items l.fn.sketch l.sketch;
  next : after_all (at_number l.next l.around) (drop l.e-index l.es) ≡ after_all l.around l.es;
}

abbrev pub invariant-cascade-loop-m : goal.invariant-cascade-loop-m
invariant-cascade-loop-m l = record {
  goes : GoesOn (cascade_naming (is_above l.lookup) (at_number l.next l.around) (drop l.m-index l.messages)) (cascade_naming (is_above l.lookup) l.around l.messages) (IsMessages (is_above l.lookup)) l.made.items l.fn.sketch l.sketch;
  next : after_messages (at_number l.next l.around) (drop l.m-index l.messages) ≡ after_messages l.around l.messages;
}

abbrev pub invariant-body-loop-s : goal.invariant-body-loop-s
invariant-body-loop-s l = record {
  goes : (returns : Bool) → GoesOn (body_naming (at_number l.next l.around) (drop l.s-index l.statements)) (body_naming l.around l.statements) (IsBehind returns) l.nodes.items l.fn.sketch l.sketch;
  next : after_statements (at_number l.next l.around) (drop l.s-index l.statements) ≡ after_statements l.around l.statements;
}

abbrev pub invariant-follow-loop-i : goal.invariant-follow-loop-i
invariant-follow-loop-i l = record {
  built : Builds (begun_naming l.around l.first l.links l.i) (IsChain l.node.start l.node.acts.items) l.fn.sketch l.sketch;
  next : l.next ≡ after_begun l.around l.first l.links l.i;
}
