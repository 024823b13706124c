use Rattle.std.proofs.Common.{rules, ◌≡◌, Err, refl, arith}
use Rattle.st_frames.proofs.Leaves.{leaves-died}
use Rattle.st_process.proofs.InputTries.{answered, unanswered, tried-low_space}
use Rattle.st_frames.proofs.Tries.{effects}
use Rattle.st_model.specs.Input.{primitive_low_space}
use Rattle.st_process.proofs.low_space.primitive_low_space.Goals as goal

pub returns-in_err-answer-in-Ok-clause-does : goal.returns-in_err-answer-in-Ok-clause-does
returns-in_err-answer-in-Ok-clause-does g c =
    let e : c.from_residual-in_err-answer-in-Ok.result ≡ Err c.in_err-answer-in-Ok.field-0.0 = search rules in
    leaves-died _ _ _ _ _ _ _ _ _ _ e refl (tried-low_space _ _ _ _ _ _ _ _ c.in_ok-receiver.ensures.does c.in_ok-semaphore.ensures.does c.in_ok-entries.ensures.does c.in_ok-words.ensures.does c.in-Ok.ensures.does
    (unanswered _ _ _ _ _ (rw c.in-Ok.ensures.of at c.in_err-answer-in-Ok.ensures.does.does)))

pub returns-in_ok-answer-in-Ok-clause-does : goal.returns-in_ok-answer-in-Ok-clause-does
returns-in_ok-answer-in-Ok-clause-does g c = record {
  does = tried-low_space _ _ _ _ _ _ _ _ c.in_ok-receiver.ensures.does c.in_ok-semaphore.ensures.does c.in_ok-entries.ensures.does c.in_ok-words.ensures.does c.in-Ok.ensures.does
      (answered _ _ _ _ _ _ _ (rw c.in-Ok.ensures.of at c.in_ok-answer-in-Ok.ensures.does.does) c.succeed_leaving.ensures.does.does);
  world = search rules;
}

pub returns-in_err-receiver-clause-does : goal.returns-in_err-receiver-clause-does
unfolding primitive_low_space
returns-in_err-receiver-clause-does g c = grind (arith, effects)

pub returns-in_err-semaphore-clause-does : goal.returns-in_err-semaphore-clause-does
unfolding primitive_low_space
returns-in_err-semaphore-clause-does g c = grind (arith, effects)

pub returns-in_err-entries-clause-does : goal.returns-in_err-entries-clause-does
unfolding primitive_low_space
returns-in_err-entries-clause-does g c = grind (arith, effects)

pub returns-in_err-words-clause-does : goal.returns-in_err-words-clause-does
unfolding primitive_low_space
returns-in_err-words-clause-does g c = grind (arith, effects)

pub returns-in-Err-clause-does : goal.returns-in-Err-clause-does
unfolding primitive_low_space
returns-in-Err-clause-does g c = grind (arith, effects)
