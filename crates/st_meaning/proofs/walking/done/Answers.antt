use Rattle.std.proofs.Common.{◌≡◌, ℕ, ◌==◌, true, Option, Some, None, Err, length, rules}
use Rattle.st_meaning.specs.declared.code.Walked.TheVariants.{Went, Stored, Sent, Copied, Returned, Ahead, Back, Tested, Stuck}
use Rattle.st_meaning.specs.inside.Runs.{long, assign_to, answer_to, make_block}
use Rattle.st_meaning.specs.inside.Meanings.{most}
use Rattle.st_meaning.specs.inside.Courses.{going_view, becomes, IsTooLong, IsLongJump}
use Rattle.st_meaning.proofs.Continuing.{faulted, still_long, along, along_long, went_on, stored_on, stored_long, sent_on, sent_long, copied_on, copied_long, returned_over, returned_long, ahead_on, back_on, back_long, stuck_there}
use Rattle.st_meaning.proofs.walking.done.Goals as goal

pub returns-in-Went-clause-goes : goal.returns-in-Went-clause-goes
returns-in-Went-clause-goes c =
    along c.args.walked Went c.args.at c.args.stack.now.items c.args.stack.now.items c.args.course.now c.args.course.now (Some c.args.at) c.in-Went.is
    (went_on c.args.at c.args.stack.now.items c.args.course.now)

pub returns-in_ok-assign-in-Stored-clause-goes : goal.returns-in_ok-assign-in-Stored-clause-goes
returns-in_ok-assign-in-Stored-clause-goes c =
    along c.args.walked (Stored c.in-Stored.variable c.in-Stored.value) c.args.at c.args.stack.now.items c.args.stack.now.items c.args.course.now c.assign.new.self (Some c.args.at) c.in-Stored.is
    (stored_on c.in-Stored.variable c.in-Stored.value c.args.at c.args.stack.now.items c.args.course.now c.assign.new.self c.in_ok-assign-in-Stored.ensures.went)

pub returns-in_err-assign-in-Stored-clause-long : goal.returns-in_err-assign-in-Stored-clause-long
returns-in_err-assign-in-Stored-clause-long c =
    let fault = c.in_err-assign-in-Stored.field-0.0 in
    let e : c.from_residual.result ≡ Err fault = search rules in
    faulted (Option ℕ) (assign_to most c.in-Stored.variable c.in-Stored.value (going_view c.args.course.now) ≡ long) (IsTooLong (becomes c.args.walked c.args.at c.args.stack.now.items c.args.course.now)) c.from_residual.result fault e
    (λ h. along_long c.args.walked (Stored c.in-Stored.variable c.in-Stored.value) c.args.at c.args.stack.now.items c.args.course.now c.in-Stored.is (stored_long c.in-Stored.variable c.in-Stored.value c.args.at c.args.stack.now.items c.args.course.now h)) c.in_err-assign-in-Stored.ensures.long

pub returns-in_ok-go_on-in-Sent-clause-goes : goal.returns-in_ok-go_on-in-Sent-clause-goes
returns-in_ok-go_on-in-Sent-clause-goes c =
    along c.args.walked (Sent c.in-Sent.receiver c.in-Sent.selector c.in-Sent.arguments c.in-Sent.above) c.args.at c.args.stack.now.items c.go_on.new.stack.items c.args.course.now c.answer.new.self c.in_ok-go_on-in-Sent.field-0 c.in-Sent.is
    (sent_on c.in-Sent.receiver c.in-Sent.selector.now c.in-Sent.arguments.items c.in-Sent.above c.args.at c.args.stack.now.items c.go_on.new.stack.items c.args.course.now c.answer.new.self c.in_ok-answer-in-Sent.answer c.in_ok-go_on-in-Sent.field-0 c.in_ok-answer-in-Sent.ensures.went c.in_ok-go_on-in-Sent.ensures)

pub returns-in_err-answer-in-Sent-clause-long : goal.returns-in_err-answer-in-Sent-clause-long
returns-in_err-answer-in-Sent-clause-long c =
    let fault = c.in_err-answer-in-Sent.field-0.0 in
    let e : c.from_residual-in_err-answer-in-Sent.result ≡ Err fault = search rules in
    faulted (Option ℕ) (answer_to most c.in-Sent.receiver c.in-Sent.selector.now c.in-Sent.arguments.items c.in-Sent.above (going_view c.args.course.now) ≡ long) (IsTooLong (becomes c.args.walked c.args.at c.args.stack.now.items c.args.course.now)) c.from_residual-in_err-answer-in-Sent.result fault e
    (λ h. along_long c.args.walked (Sent c.in-Sent.receiver c.in-Sent.selector c.in-Sent.arguments c.in-Sent.above) c.args.at c.args.stack.now.items c.args.course.now c.in-Sent.is (sent_long c.in-Sent.receiver c.in-Sent.selector.now c.in-Sent.arguments.items c.in-Sent.above c.args.at c.args.stack.now.items c.args.course.now h)) c.in_err-answer-in-Sent.ensures.long

pub returns-in_ok-go_on-in-Copied-clause-goes : goal.returns-in_ok-go_on-in-Copied-clause-goes
returns-in_ok-go_on-in-Copied-clause-goes c =
    along c.args.walked Copied c.args.at c.args.stack.now.items c.go_on-in-Copied.new.stack.items c.args.course.now c.make.new.self c.in_ok-go_on-in-Copied.field-0 c.in-Copied.is
    (copied_on c.in_ok-block-in-Copied.block c.args.at c.args.stack.now.items c.go_on-in-Copied.new.stack.items c.args.course.now c.make.new.self c.in_ok-go_on-in-Copied.field-0 c.in_ok-block-in-Copied.ensures.went c.in_ok-go_on-in-Copied.ensures)

pub returns-in_err-block-in-Copied-clause-long : goal.returns-in_err-block-in-Copied-clause-long
returns-in_err-block-in-Copied-clause-long c =
    let fault = c.in_err-block-in-Copied.field-0.0 in
    let e : c.from_residual-in_err-block-in-Copied.result ≡ Err fault = search rules in
    faulted (Option ℕ) (make_block most (going_view c.args.course.now) ≡ long) (IsTooLong (becomes c.args.walked c.args.at c.args.stack.now.items c.args.course.now)) c.from_residual-in_err-block-in-Copied.result fault e
    (λ h. along_long c.args.walked Copied c.args.at c.args.stack.now.items c.args.course.now c.in-Copied.is (copied_long c.args.at c.args.stack.now.items c.args.course.now h)) c.in_err-block-in-Copied.ensures.long

pub returns-in_ok-did-in-Returned-clause-goes : goal.returns-in_ok-did-in-Returned-clause-goes
returns-in_ok-did-in-Returned-clause-goes c =
    along c.args.walked (Returned c.in-Returned.value) c.args.at c.args.stack.now.items c.args.stack.now.items c.args.course.now c.did.new.self None c.in-Returned.is
    (returned_over c.in-Returned.value c.args.at c.args.stack.now.items c.args.course.now c.did.new.self c.in_ok-did-in-Returned.ensures.few c.in_ok-did-in-Returned.ensures.went)

pub returns-in_err-did-in-Returned-clause-long : goal.returns-in_err-did-in-Returned-clause-long
returns-in_err-did-in-Returned-clause-long c =
    let fault = c.in_err-did-in-Returned.field-0.0 in
    let e : c.from_residual-in_err-did-in-Returned.result ≡ Err fault = search rules in
    faulted (Option ℕ) ((length c.args.course.now.deeds.items == most) ≡ true) (IsTooLong (becomes c.args.walked c.args.at c.args.stack.now.items c.args.course.now)) c.from_residual-in_err-did-in-Returned.result fault e
    (λ h. along_long c.args.walked (Returned c.in-Returned.value) c.args.at c.args.stack.now.items c.args.course.now c.in-Returned.is (returned_long c.in-Returned.value c.args.at c.args.stack.now.items c.args.course.now h)) c.in_err-did-in-Returned.ensures.long

pub returns-in_ok-sum-in-Ahead-clause-goes : goal.returns-in_ok-sum-in-Ahead-clause-goes
returns-in_ok-sum-in-Ahead-clause-goes c =
    along c.args.walked (Ahead c.in-Ahead.distance) c.args.at c.args.stack.now.items c.args.stack.now.items c.args.course.now c.args.course.now (Some c.in_ok-sum-in-Ahead.field-0) c.in-Ahead.is
    (ahead_on c.in-Ahead.distance c.in_ok-sum-in-Ahead.field-0 c.args.at c.args.stack.now.items c.args.course.now c.in_ok-sum-in-Ahead.ensures)

pub returns-in_ok-back-in-Back-clause-goes : goal.returns-in_ok-back-in-Back-clause-goes
returns-in_ok-back-in-Back-clause-goes c =
    along c.args.walked (Back c.in-Back.distance) c.args.at c.args.stack.now.items c.args.stack.now.items c.args.course.now c.back.new.self (Some c.saturating_sub.result) c.in-Back.is
    (back_on c.in-Back.distance c.saturating_sub.result c.args.at c.args.stack.now.items c.args.course.now c.back.new.self c.saturating_sub.ensures c.in_ok-back-in-Back.ensures.few c.in_ok-back-in-Back.ensures.went)

pub returns-in_err-back-in-Back-clause-long : goal.returns-in_err-back-in-Back-clause-long
returns-in_err-back-in-Back-clause-long c =
    let fault = c.in_err-back-in-Back.field-0.0 in
    let e : c.from_residual-in_err-back-in-Back.result ≡ Err fault = search rules in
    faulted (Option ℕ) ((c.args.course.now.backs == most) ≡ true) (IsTooLong (becomes c.args.walked c.args.at c.args.stack.now.items c.args.course.now)) c.from_residual-in_err-back-in-Back.result fault e
    (λ h. along_long c.args.walked (Back c.in-Back.distance) c.args.at c.args.stack.now.items c.args.course.now c.in-Back.is (back_long c.in-Back.distance c.args.at c.args.stack.now.items c.args.course.now h)) c.in_err-back-in-Back.ensures.long

pub returns-in-Stuck-clause-goes : goal.returns-in-Stuck-clause-goes
returns-in-Stuck-clause-goes c =
    along c.args.walked Stuck c.args.at c.args.stack.now.items c.args.stack.now.items c.args.course.now c.args.course.now None c.in-Stuck.is
    (stuck_there c.args.at c.args.stack.now.items c.args.course.now)

pub returns-in-Tested-clause-long : goal.returns-in-Tested-clause-long
returns-in-Tested-clause-long c =
    still_long (Option ℕ) (IsLongJump c.in-Tested.on c.in-Tested.value c.in-Tested.distance c.args.at c.args.course.now) (IsTooLong (becomes c.args.walked c.args.at c.args.stack.now.items c.args.course.now)) c.jump_on.result
    (λ h. along_long c.args.walked (Tested c.in-Tested.on c.in-Tested.value c.in-Tested.distance) c.args.at c.args.stack.now.items c.args.course.now c.in-Tested.is (h c.args.stack.now.items)) c.jump_on.ensures.long
