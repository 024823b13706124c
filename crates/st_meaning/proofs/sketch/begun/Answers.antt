use Rattle.std.proofs.Common.{refl, ap, ◌∙◌}
use Rattle.st_scan.specs.Views.{expression_view, statements_view, names_view}
use Rattle.st_scan.proofs.Views.{expression_view-block}
use Rattle.st_emit.specs.inside.Around.{context}
use Rattle.st_meaning.proofs.Sketching.{block_built}
use Rattle.st_meaning.proofs.sketch.begun.Goals as goal

pub returns-in_ok-next-in-Block-clause-built : goal.returns-in_ok-next-in-Block-clause-built
returns-in_ok-next-in-Block-clause-built c =
    block_built (expression_view c.args.e.now) (context c.args.around) (names_view c.in-Block.names.items) (statements_view c.in-Block.body.items) c.args.sketch.now (record c.args.sketch.now { draft = c.value.new.draft }) (ap expression_view c.in-Block.is ∙ expression_view-block c.in-Block.names c.in-Block.body)
    c.in_ok-next-in-Block.ensures.added.literals refl
