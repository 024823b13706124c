use Rattle.std.proofs.Common.{◌≡◌, ℕ, List, Some, drop, refl, ap, ◌∙◌, rules}
use Rattle.std.proofs.lemmas.List.{take_rest}
use Rattle.st_resolved.specs.Instructions.{instruction}
use Rattle.st_code.specs.inside.MethodDrafts.{parts_view}
use Rattle.st_meaning.specs.inside.Codes.{walk_code}
use Rattle.st_meaning.specs.inside.Walks.{values_of}
use Rattle.st_meaning.specs.inside.Courses.{held_of, stack_view, walked_view}
use Rattle.st_meaning.proofs.Numbers.{found_short}
use Rattle.st_meaning.proofs.Continuing.{found_goes, found_faults}
use Rattle.st_meaning.proofs.walking.advance.Goals as goal

pub walk_code-requires : goal.walk_code-requires
walk_code-requires c =
    let there : Some c.in-Some.found ≡ instruction (drop c.args.at c.args.parts.now.bytes.items) =
    c.in-Some.ensures ∙ ap instruction (take_rest c.deref.result.now c.args.at) ∙ ap (λ (bytes : List ℕ). instruction (drop c.args.at bytes)) c.deref.ensures.value in
    found_short (drop c.args.at c.args.parts.now.bytes.items) c.in-Some.found there

pub returns-clause-goes : goal.returns-clause-goes
returns-clause-goes c =
    let there : Some c.in-Some.found ≡ instruction (drop c.args.at c.args.parts.now.bytes.items) =
    c.in-Some.ensures ∙ ap instruction (take_rest c.deref.result.now c.args.at) ∙ ap (λ (bytes : List ℕ). instruction (drop c.args.at bytes)) c.deref.ensures.value in
    let does : walked_view c.in_ok-walked.walked (stack_view c.walk_code.new.stack.items) ≡ walk_code (values_of (parts_view c.args.parts.now).literals (held_of c.args.course.now.held)) c.in-Some.found.step (stack_view c.args.stack.now.items) = search rules in
    found_goes c.done.result (parts_view c.args.parts.now) c.args.at c.args.stack.now.items c.walk_code.new.stack.items c.done.new.stack.items c.args.course.now c.done.new.course (Some c.in-Some.found) c.in-Some.found c.in_ok-walked.walked c.in_ok-sum.field-0 there refl c.in_ok-sum.ensures does c.done.ensures.goes

pub returns-clause-long : goal.returns-clause-long
returns-clause-long c =
    let there : Some c.in-Some.found ≡ instruction (drop c.args.at c.args.parts.now.bytes.items) =
    c.in-Some.ensures ∙ ap instruction (take_rest c.deref.result.now c.args.at) ∙ ap (λ (bytes : List ℕ). instruction (drop c.args.at bytes)) c.deref.ensures.value in
    let does : walked_view c.in_ok-walked.walked (stack_view c.walk_code.new.stack.items) ≡ walk_code (values_of (parts_view c.args.parts.now).literals (held_of c.args.course.now.held)) c.in-Some.found.step (stack_view c.args.stack.now.items) = search rules in
    found_faults c.done.result (parts_view c.args.parts.now) c.args.at c.args.stack.now.items c.walk_code.new.stack.items c.args.course.now (Some c.in-Some.found) c.in-Some.found c.in_ok-walked.walked c.in_ok-sum.field-0 there refl c.in_ok-sum.ensures does c.done.ensures.long
