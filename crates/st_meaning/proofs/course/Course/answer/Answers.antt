use Rattle.std.proofs.Common.{ℕ, List, ap, ◌∙◌}
use Rattle.st_meaning.specs.inside.Values.{sent}
use Rattle.st_meaning.specs.inside.Meanings.{most}
use Rattle.st_meaning.specs.inside.Courses.{going_view, with_deed}
use Rattle.st_meaning.proofs.Coursing.{answer_goes}
use Rattle.st_meaning.proofs.course.Course.answer.Goals as goal

pub returns-clause-went : goal.returns-clause-went
returns-clause-went c =
    let text = c.in_ok-selector.ensures.items_if_clones_equal (λ x y h. h) in
    answer_goes most c.args.receiver c.args.selector.now c.args.arguments.items c.args.above c.args.self.now c.did.new.self c.take_answer.new.self c.take_answer.result c.in_ok-did.ensures.few
    (c.in_ok-did.ensures.went ∙ ap (λ (t : List ℕ). with_deed (sent c.args.receiver t c.args.arguments.items c.args.above) (going_view c.args.self.now)) text)
    c.take_answer.ensures.went
