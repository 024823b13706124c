use Rattle.std.proofs.Common.{rules, ◌≡◌, Err, refl, arith}
use Rattle.st_frames.proofs.Leaves.{leaves-died}
use Rattle.st_process.proofs.InputTries.{answered, unanswered, timer-set, timer-unset, tried-timer}
use Rattle.st_frames.proofs.Tries.{effects}
use Rattle.st_model.specs.Input.{primitive_timer}
use Rattle.st_process.proofs.timer.primitive_timer.Goals as goal

pub returns-in_err-deed-in-Ok-clause-does : goal.returns-in_err-deed-in-Ok-clause-does
returns-in_err-deed-in-Ok-clause-does g c =
    let e : c.from_residual-in_err-deed-in-Ok.result ≡ Err c.in_err-deed-in-Ok.field-0.0 = search rules in
    leaves-died _ _ _ _ _ _ _ _ _ _ e refl (tried-timer _ _ _ _ _ _ _ c.in_ok-receiver.ensures.does c.in_ok-semaphore.ensures.does c.in_ok-bytes.ensures.does c.in-Ok.ensures.does
    (unanswered _ _ _ _ _ (timer-unset _ _ _ _ _ _ c.in_err-deed-in-Ok.ensures.does.does)))

pub returns-in_ok-deed-in-Ok-clause-does : goal.returns-in_ok-deed-in-Ok-clause-does
returns-in_ok-deed-in-Ok-clause-does g c = record {
  does = tried-timer _ _ _ _ _ _ _ c.in_ok-receiver.ensures.does c.in_ok-semaphore.ensures.does c.in_ok-bytes.ensures.does c.in-Ok.ensures.does
      (answered _ _ _ _ _ _ _ (timer-set _ _ _ _ _ _ c.in_ok-deed-in-Ok.ensures.does.does) c.succeed_leaving.ensures.does.does);
  world = search rules;
}

pub returns-in_err-receiver-clause-does : goal.returns-in_err-receiver-clause-does
unfolding primitive_timer
returns-in_err-receiver-clause-does g c = grind (arith, effects)

pub returns-in_err-semaphore-clause-does : goal.returns-in_err-semaphore-clause-does
unfolding primitive_timer
returns-in_err-semaphore-clause-does g c = grind (arith, effects)

pub returns-in_err-bytes-clause-does : goal.returns-in_err-bytes-clause-does
unfolding primitive_timer
returns-in_err-bytes-clause-does g c = grind (arith, effects)

pub returns-in-Err-clause-does : goal.returns-in-Err-clause-does
unfolding primitive_timer
returns-in-Err-clause-does g c = grind (arith, effects)
