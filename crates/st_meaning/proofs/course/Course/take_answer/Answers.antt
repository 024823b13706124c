use Rattle.std.proofs.Common.{List, ap, ◌∙◌}
use Rattle.st_meaning.specs.declared.deed.Variable.{Variable}
use Rattle.st_meaning.specs.declared.deed.Value.{Value}
use Rattle.st_meaning.specs.inside.Runs.{all_changed}
use Rattle.st_meaning.specs.inside.Courses.{going_view, held_of}
use Rattle.st_meaning.proofs.Coursing.{first_answer}
use Rattle.st_meaning.proofs.course.Course.take_answer.Goals as goal

pub returns-in-len1-up-clause-went : goal.returns-in-len1-up-clause-went
returns-in-len1-up-clause-went c =
    first_answer c.args.self.now.answers.now c.answer-item.result (going_view c.args.self.now) (held_of c.change_all.new.self) c.in-len1-up.len_at_least c.answer-item.is
    (c.change_all.ensures.held ∙ ap (λ (l : List (Variable × Value)). all_changed l (held_of c.args.self.now.held)) c.deref.ensures.value)
