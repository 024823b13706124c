use Rattle.std.proofs.Common.{ap, ◌∙◌, sym}
use Rattle.st_model.specs.Values.{word}
use Rattle.st_model.specs.Machine.{Went}
use Rattle.st_simulation.proofs.Going.{step_names_top}
use Rattle.st_frames.specs.inside.Rows.{outcome_in}
use Rattle.st_frames.specs.inside.Shown.{shown}
use Rattle.st_step.proofs.stepping.outcome.Goals as goal

-- a step that says leaves a word at the top of the stack
pub say_top-requires-clause-top : goal.say_top-requires-clause-top
say_top-requires-clause-top g c =
    let q = c.requires.ended.0 in
    let h = c.requires.ended.1 in
    let t = shown (g.M.Memory.view c.args.m.now) c.args.f.now h.0 in
    let x = word q.said in
    (h.0, x, step_names_top h.1 t x (h.2 ∙ ap (λ y. Went (outcome_in q y) t) c.in-Says.is))

pub returns-in-Says : goal.returns-in-Says
returns-in-Says g c q h =
    let t = shown (g.M.Memory.view c.args.m.now) c.args.f.now h.0 in
    let x = word q.said in
    c.say_top.ensures h.0 x (step_names_top h.1 t x (h.2 ∙ ap (λ y. Went (outcome_in q y) t) c.in-Says.is)) ∙ sym (ap (outcome_in q) c.in-Says.is)
