use Rattle.std.proofs.Common.{sym, ap, ◌∙◌, subst, arith}
use Rattle.st_scan.specs.Views.{ExpressionView, names_view as list_view, expression_view, statements_view, block}
use Rattle.st_scan.specs.inside.Chains.{link_size}
use Rattle.st_scan.proofs.Views.{expression_view-block}
use Rattle.st_scan.proofs.Chains.{link_within, chain_within}
use Rattle.st_emit.specs.inside.NameViews.{names_view, scope_view}
use Rattle.st_code.specs.Faults.{expression_fault}
use Rattle.st_code.specs.Reported.{Reports}
use Rattle.st_code.proofs.checking.+faults.Goals as goal

pub expression-chain-requires-2 : goal.expression-chain-requires-2
expression-chain-requires-2 t c =
    (omega (arith, chain_within c.args.e.now c.in_ok-parts.parts c.deref.result.now c.in_ok-parts.ensures.within c.deref.ensures.value), c.in_ok-parts.ensures.start)

pub sent-messages-requires : goal.sent-messages-requires
sent-messages-requires t c = (omega (arith, link_within c.args.links.now c.loop-link.link-index c.link-item.result c.loop-link-test.true c.link-item.is, ap link_size c.in-Send.is), tt)

pub start-returns-in-Block : goal.start-returns-in-Block
start-returns-in-Block t c =
    let names = ap (λ ns. block (list_view ns) (statements_view c.deref-in-Block.result.now)) c.deref.ensures.value ∙ ap (λ ss. block (list_view c.in-Block.arguments.items) (statements_view ss)) c.deref-in-Block.ensures.value in
    let view = names ∙ sym (expression_view-block c.in-Block.arguments c.in-Block.body) ∙ ap expression_view (sym c.in-Block.is) in
    subst (λ (x : ExpressionView). Reports (expression_fault (names_view c.args.around.names.now) x (scope_view c.args.around.scope.now)) c.block.result) view c.block.ensures
