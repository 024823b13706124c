use Rattle.std.proofs.Common.{◌<◌, sym, ap, ◌∙◌, arith}
use Rattle.std.proofs.lemmas.List.Elements.{All-push}
use denote.Param.Weighed.{most}
use Rattle.st_scan.specs.declared.tree.Expression.{size-Expression}
use Rattle.st_scan.specs.declared.tree.Expression.TheViews.{sized-Assign}
use Rattle.st_scan.specs.declared.tree.Message.{size-Message}
use Rattle.st_scan.specs.declared.chain.Link.TheVariants.{Send}
use Rattle.st_scan.specs.inside.Chains.{IsBelow}
use Rattle.st_scan.specs.Views.{name_view, expression_view, assign, send, messages_view}
use Rattle.st_scan.proofs.Views.{expression_view-send}
use Rattle.st_scan.proofs.Chains.{linked_turn, size-receiver, size-messages}
use Rattle.st_scan.proofs.tree.Expression.chain.Goals as goal

pub loop-start-preserved-in-Assign-1 : goal.loop-start-preserved-in-Assign-1
loop-start-preserved-in-Assign-1 c =
    let kept = c.loop-start.invariant in
    let value = c.deref-start.ensures in
    let step = ap (λ e. assign (name_view c.in-Assign.target) (expression_view e)) value ∙ sym (ap expression_view c.in-Assign.is) in
    let is = ap size-Expression c.in-Assign.is in
    record {
      whole = linked_turn _ _ _ c.loop-start.links.items _ _ c.in_ok-push-in-Assign.ensures.items step kept.whole;
      start = omega (arith, is, ap size-Expression value, sized-Assign c.in-Assign.target c.in-Assign.value, kept.start);
      links = rw c.in_ok-push-in-Assign.ensures.items (All-push (IsBelow (size-Expression c.args.self.now)) _ _ kept.links tt);
    }

pub loop-start-preserved : goal.loop-start-preserved
loop-start-preserved c =
    let kept = c.loop-start.invariant in
    let receiver = ap (λ e. send (expression_view e) (messages_view c.deref.result.now)) c.deref-start-in-Send.ensures in
    let messages = ap (λ ms. send (expression_view c.in-Send.receiver.value) (messages_view ms)) c.deref.ensures.value in
    let step = receiver ∙ messages ∙ sym (expression_view-send c.in-Send.receiver c.in-Send.messages) ∙ sym (ap expression_view c.in-Send.is) in
    let is = ap size-Expression c.in-Send.is in
    let below = size-messages c.in-Send.receiver c.in-Send.messages in
    let less : most size-Message c.deref.result.now < size-Expression c.args.self.now = omega (arith, is, below, kept.start, ap (most size-Message) c.deref.ensures.value) in
    record {
      whole = linked_turn _ _ _ c.loop-start.links.items _ _ c.in_ok-push-in-Send.ensures.items step kept.whole;
      start = omega (arith, is, ap size-Expression c.deref-start-in-Send.ensures, size-receiver c.in-Send.receiver c.in-Send.messages, kept.start);
      links = rw c.in_ok-push-in-Send.ensures.items (All-push (IsBelow (size-Expression c.args.self.now)) _ (Send c.deref.result) kept.links less);
    }

pub returns-clause-whole : goal.returns-clause-whole
returns-clause-whole c = rw c.reverse.ensures.items c.loop-start.invariant.whole
