use Rattle.std.proofs.Common.{Some, ap, ◌∙◌, sym}
use Rattle.st_model.specs.Values.{word}
use Rattle.st_frames.specs.inside.Rows.{outcome_in}
use Rattle.st_step.proofs.calling.trial.Goals as goal

-- what it says is at the top of the stack
pub say_top-requires-clause-top : goal.say_top-requires-clause-top
say_top-requires-clause-top g c =
    let q = c.requires.top.0 in
    let h = c.requires.top.1 in
    (h.0, word q.said, h.1 (word q.said) (ap (outcome_in q) c.in-Says.is))

pub returns-in-Says-clause-outcome : goal.returns-in-Says-clause-outcome
returns-in-Says-clause-outcome g c q h = ap (λ o. Some o) (c.say_top.ensures h.0 (word q.said) (h.1 (word q.said) (ap (outcome_in q) c.in-Says.is)) ∙ sym (ap (outcome_in q) c.in-Says.is))
