use Rattle.std.proofs.Common.{ap, ◌∙◌}
use Rattle.st_scan.specs.Views.{expression_view, expressions_view}
use Rattle.st_emit.specs.inside.Shapes.{repetition_with}
use Rattle.st_emit.proofs.Shapes.{repetition_with-many}
use Rattle.st_emit.proofs.shape.repetition_with.Goals as goal

pub returns-in-len2-up-clause-repetition : goal.returns-in-len2-up-clause-repetition
returns-in-len2-up-clause-repetition c =
    repetition_with-many c.args.m.now.selector.items c.as_slice.result.now (expression_view c.args.start.now) c.in-len2-up.len_at_least
    ∙ ap (λ es. repetition_with c.args.m.now.selector.items (expressions_view es) (expression_view c.args.start.now)) c.as_slice.ensures.value
