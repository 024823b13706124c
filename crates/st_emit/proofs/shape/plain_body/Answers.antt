use Rattle.std.proofs.Common.{[], sym, ap, ◌∙◌}
use Rattle.st_scan.specs.Views.{expression_view, names_view, statements_view, block}
use Rattle.st_scan.proofs.Views.{expression_view-block}
use Rattle.st_emit.proofs.Lists.{no_items}
use Rattle.st_emit.proofs.shape.plain_body.Goals as goal

pub returns-in-empty-clause-view : goal.returns-in-empty-clause-view
returns-in-empty-clause-view c =
    let none = sym c.as_slice.ensures.value ∙ no_items c.as_slice.result.now c.in-empty.len_below in
    ap expression_view c.in-Block.is ∙ expression_view-block c.in-Block.names c.in-Block.body
    ∙ ap (λ ns. block (names_view ns) (statements_view c.in-Block.body.items)) none
    ∙ ap (λ b. block [] (statements_view b)) (sym c.deref.ensures.value)
