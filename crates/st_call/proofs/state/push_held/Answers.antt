use Rattle.std.proofs.Common.{◌++◌, [], ◌∷◌}
use Rattle.std.specs.Prelude.{codes}
use Rattle.st_model.specs.Text.{values_text}
use Rattle.st_call.proofs.Pushing.{push_as}
use Rattle.st_call.proofs.state.push_held.Goals as goal

pub returns : goal.returns
returns g c =
    push_as c.push_values_line.ensures
    (λ k. codes "held" ++ (values_text (c.held-display.ensures.held k ∷ c.held-cursor.ensures.held k ∷ c.held-input.ensures.held k ∷ c.held-timer.ensures.held k ∷ c.held-low_space.ensures.held k ∷ [])
    ++ codes "\n"))
