use Rattle.std.proofs.Common.{Bool, Option, Some, ap, ◌∙◌, subst}
use Rattle.st_meaning.specs.inside.Courses.{Tests}
use Rattle.st_meaning.proofs.Continuing.{tested_ahead, tested_on}
use Rattle.st_meaning.proofs.walking.jump_on.Goals as goal

pub returns-in_ok-sum-clause-goes : goal.returns-in_ok-sum-clause-goes
returns-in_ok-sum-clause-goes c =
    let jumps = subst (λ (o : Option Bool). Tests c.args.on c.args.value c.args.course.now c.test.new.course o) (c.in-Some.is ∙ ap (λ (b : Bool). Some b) c.if-jumps.true) c.in_ok-jumps.ensures.jumps in
    tested_ahead c.args.on c.args.value c.args.distance c.in_ok-sum.field-0 c.args.at c.args.course.now c.test.new.course jumps c.in_ok-sum.ensures

pub returns-else-jumps-clause-goes : goal.returns-else-jumps-clause-goes
returns-else-jumps-clause-goes c =
    let stays = subst (λ (o : Option Bool). Tests c.args.on c.args.value c.args.course.now c.test.new.course o) (c.in-Some.is ∙ ap (λ (b : Bool). Some b) c.if-jumps.false) c.in_ok-jumps.ensures.jumps in
    tested_on c.args.on c.args.value c.args.distance c.args.at c.args.course.now c.test.new.course stays
