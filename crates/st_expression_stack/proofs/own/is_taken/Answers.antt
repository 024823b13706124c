use Rattle.std.proofs.Common.{ap, ◌∙◌}
use Rattle.st_expression_stack.specs.inside.Called.{is_kept}
use Rattle.st_expression_stack.proofs.Kept.{found_kept}
use Rattle.st_expression_stack.proofs.own.is_taken.Goals as goal

pub returns : goal.returns
returns c =
    let keys = c.args.taken.now.names.keys in
    c.contains.ensures ∙ found_kept keys c.as_slice.result.now ∙ ap (is_kept keys) (c.as_slice.ensures.value ∙ c.in_ok-text.ensures)
