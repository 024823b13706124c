use Rattle.std.proofs.Common.{◌≡◌}
use Rattle.st_code.specs.inside.MethodDrafts.{parts_view}
use Rattle.st_meaning.specs.inside.Deeds.{answers_view}
use Rattle.st_meaning.specs.inside.Meanings.{Walk}
use Rattle.st_meaning.specs.inside.Courses.{IsSound}
use Rattle.st_meaning.proofs.Stepping.{walk_at}
use Rattle.st_meaning.proofs.walking.walk.Given as goal

abbrev pub invariant-loop-left : goal.invariant-loop-left
invariant-loop-left l = record {
  goes : walk_at (parts_view l.parts) l.left l.at l.stack.items l.course ≡ Walk (parts_view l.parts) (answers_view l.answers.items);
  sound : IsSound l.course;
}

abbrev pub decreases-loop-left : goal.decreases-loop-left
decreases-loop-left l = l.left
