use Rattle.std.proofs.Common.{◌≡◌, ℕ, ◌<◌, Option, Err, ◌∙◌, subst, arith, rules}
use Rattle.st_code.specs.inside.MethodDrafts.{parts_view}
use Rattle.st_meaning.specs.inside.Deeds.{answers_view, deeds_view}
use Rattle.st_meaning.specs.inside.Meanings.{Walk}
use Rattle.st_meaning.specs.inside.Courses.{Continues, IsTooLong, advances}
use Rattle.st_meaning.proofs.Stepping.{goes_on, is_over, is_long, is_enough, begins_so, faults_so}
use Rattle.st_meaning.proofs.walking.walk.Goals as goal

pub loop-left-init : goal.loop-left-init
loop-left-init c = record {
  goes = begins_so (parts_view c.args.parts.now) c.args.answers.now.items c.deref-2.result.now c.deref.result.now c.arity.result c.len.result c.in_ok-left.left c.new-stack.result.items c.in_ok-course.course
      c.in_ok-left.ensures (c.len.ensures ∙ c.args.parts.now.bytes.ok.0) c.arity.ensures c.deref.ensures.value c.deref-2.ensures.value c.new-stack.ensures.items c.in_ok-course.ensures.begins;
  sound = c.in_ok-course.ensures.sound;
}

pub loop-left-preserved : goal.loop-left-preserved
loop-left-preserved c =
    let some : 0 < c.loop-left.left = omega arith in
    let on = subst (λ (o : Option ℕ). Continues (advances (parts_view c.args.parts.now) c.loop-left.at c.loop-left.stack.items c.loop-left.course) c.advance.new.stack.items c.advance.new.course o) c.in-Some.is c.in_ok-next.ensures.goes in
    record {
      goes = goes_on (parts_view c.args.parts.now) c.loop-left.left c.loop-left.at c.in-Some.next c.loop-left.stack.items c.advance.new.stack.items c.loop-left.course c.advance.new.course (Walk (parts_view c.args.parts.now) (answers_view c.args.answers.now.items)) some on c.loop-left.invariant.goes;
      sound = c.advance.ensures.sound;
    }

pub returns-in-None-clause-list : goal.returns-in-None-clause-list
returns-in-None-clause-list c =
    let some : 0 < c.loop-left.left = omega arith in
    let end = subst (λ (o : Option ℕ). Continues (advances (parts_view c.args.parts.now) c.loop-left.at c.loop-left.stack.items c.loop-left.course) c.advance.new.stack.items c.advance.new.course o) c.in-None.is c.in_ok-next.ensures.goes in
    is_over (parts_view c.args.parts.now) c.loop-left.left c.loop-left.at c.loop-left.stack.items c.advance.new.stack.items c.loop-left.course c.advance.new.course (Walk (parts_view c.args.parts.now) (answers_view c.args.answers.now.items)) some end c.loop-left.invariant.goes

pub returns-in_err-next-clause-fault : goal.returns-in_err-next-clause-fault
returns-in_err-next-clause-fault c =
    let some : 0 < c.loop-left.left = omega arith in
    let fault = c.in_err-next.field-0.0 in
    let e : c.from_residual-in_err-next.result ≡ Err fault = search rules in
    faults_so _ (IsTooLong (advances (parts_view c.args.parts.now) c.loop-left.at c.loop-left.stack.items c.loop-left.course)) (Walk (parts_view c.args.parts.now) (answers_view c.args.answers.now.items)) c.from_residual-in_err-next.result fault e
    (λ h. is_long (parts_view c.args.parts.now) c.loop-left.left c.loop-left.at c.loop-left.stack.items c.loop-left.course (Walk (parts_view c.args.parts.now) (answers_view c.args.answers.now.items)) some h c.loop-left.invariant.goes) c.in_err-next.ensures.long

pub returns-clause-list : goal.returns-clause-list
returns-clause-list c =
    let none : c.loop-left.left ≡ 0 = omega arith in
    is_enough (parts_view c.args.parts.now) (answers_view c.args.answers.now.items) c.loop-left.left c.loop-left.at c.loop-left.stack.items c.loop-left.course (deeds_view c.loop-left.course.deeds.items) none c.loop-left.invariant.goes
