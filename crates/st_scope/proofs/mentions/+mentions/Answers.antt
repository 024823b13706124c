use Rattle.std.proofs.Common.{◌≡◌, ◌++◌, sym, ap, ◌∙◌, subst, arith}
use Rattle.std.specs.Prelude.{OnOk}
use Rattle.st_scan.specs.Views.{names_view, expression_view, statements_view, block}
use Rattle.st_scan.specs.inside.Chains.{link_size, links_view}
use Rattle.st_scan.proofs.Views.{expression_view-block}
use Rattle.st_scan.proofs.Chains.{link_within, chain_within}
use Rattle.st_scope.specs.Mentions.{mentioned}
use Rattle.st_scope.specs.inside.Walks.{mentions_of}
use Rattle.st_scope.proofs.Walking.{chain_walked}
use Rattle.st_scope.proofs.mentions.+mentions.Goals as goal

pub expression-chain-requires-2 : goal.expression-chain-requires-2
expression-chain-requires-2 t c =
    (omega (arith, chain_within c.args.e.now c.in_ok-parts.parts c.deref.result.now c.in_ok-parts.ensures.within c.deref.ensures.value), c.in_ok-parts.ensures.start)

pub sent-messages-requires : goal.sent-messages-requires
sent-messages-requires t c = (omega (arith, link_within c.args.links.now c.loop-link.link-index c.link-item.result c.loop-link-test.true c.link-item.is, ap link_size c.in-Send.is), tt)

pub chain-returns : goal.chain-returns
chain-returns t c = chain_walked c.sent.result (expression_view c.args.first.now) (links_view c.args.links.now) _ _ _ _ c.in_ok-targets.ensures c.in_ok-start.ensures c.sent.ensures

pub start-returns-in-Block : goal.start-returns-in-Block
start-returns-in-Block t c =
    let body = ap (λ ss. block (names_view c.in-Block.names.items) (statements_view ss)) c.deref.ensures.value in
    let view = body ∙ sym (expression_view-block c.in-Block.names c.in-Block.body) ∙ ap expression_view (sym c.in-Block.is) in
    subst (λ x. OnOk c.statements.result (mentions_of c.statements.new.names.items ≡ mentions_of c.args.names.now.items ++ mentioned x)) view c.statements.ensures
