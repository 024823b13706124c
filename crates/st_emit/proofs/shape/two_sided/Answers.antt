use Rattle.std.proofs.Common.{ap, ◌∙◌}
use Rattle.st_scan.specs.Views.{expressions_view}
use Rattle.st_emit.specs.inside.Shapes.{two_sided_shape}
use Rattle.st_emit.proofs.Shapes.{two_sided-few, two_sided-many}
use Rattle.st_emit.proofs.shape.two_sided.Goals as goal

pub returns-in-len1-clause-shape : goal.returns-in-len1-clause-shape
returns-in-len1-clause-shape c =
    two_sided-few c.args.side c.as_slice.result.now c.in-len1.len_below ∙ ap (λ es. two_sided_shape c.args.side (expressions_view es)) c.as_slice.ensures.value

pub returns-in-len3-up-clause-shape : goal.returns-in-len3-up-clause-shape
returns-in-len3-up-clause-shape c =
    two_sided-many c.args.side c.as_slice.result.now c.in-len3-up.len_at_least ∙ ap (λ es. two_sided_shape c.args.side (expressions_view es)) c.as_slice.ensures.value
