use Rattle.std.proofs.Common.{ap, ◌∙◌}
use Rattle.st_scan.specs.Views.{expressions_view}
use Rattle.st_emit.specs.inside.Shapes.{one_sided_shape}
use Rattle.st_emit.proofs.Shapes.{one_sided-many}
use Rattle.st_emit.proofs.shape.one_sided.Goals as goal

pub returns-in-len2-up-clause-shape : goal.returns-in-len2-up-clause-shape
returns-in-len2-up-clause-shape c =
    one_sided-many c.args.side c.as_slice.result.now c.in-len2-up.len_at_least ∙ ap (λ es. one_sided_shape c.args.side (expressions_view es)) c.as_slice.ensures.value
