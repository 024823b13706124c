use Rattle.st_meaning.specs.inside.Meanings.{start_of}
use Rattle.st_meaning.specs.inside.Deeds.{answers_view}
use Rattle.st_meaning.specs.inside.Courses.{held_of}
use Rattle.st_meaning.proofs.Coursing.{begins}
use Rattle.st_meaning.proofs.course.Course.before_all.Goals as goal

pub returns-clause-begins : goal.returns-clause-begins
returns-clause-begins c = begins c.new.result.items (held_of c.in_ok-at_start.field-0) (start_of c.args.arguments) (answers_view c.args.answers.now) c.new.ensures.items c.in_ok-at_start.ensures.start
