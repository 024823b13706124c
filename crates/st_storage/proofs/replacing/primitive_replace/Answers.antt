use Rattle.std.proofs.Common.{rules, ◌≡◌, Err, refl, arith}
use Rattle.st_frames.proofs.Leaves.{leaves-died}
use Rattle.st_storage.proofs.ObjectTries.{tried-replace, lost-replace, died-replace, failed-replace}
use Rattle.st_frames.proofs.Tries.{effects}
use Rattle.st_model.specs.Storage.{primitive_replace}
use Rattle.st_storage.proofs.replacing.primitive_replace.Goals as goal

pub returns-in_ok-answer-in-Ok-clause-does : goal.returns-in_ok-answer-in-Ok-clause-does
returns-in_ok-answer-in-Ok-clause-does g c = record {
  does = tried-replace _ _ _ _ _ _ _ _ _ _ _ c.in_ok-receiver.ensures.does c.in_ok-first.ensures.does c.in_ok-last.ensures.does c.in_ok-source.ensures.does c.in_ok-from.ensures.does c.in-Ok.ensures.does c.in_ok-answer-in-Ok.ensures.does.does c.succeed_leaving.ensures.does.does;
  world = search rules;
}

pub returns-in_err-answer-in-Ok-clause-does : goal.returns-in_err-answer-in-Ok-clause-does
returns-in_err-answer-in-Ok-clause-does g c =
    let e : c.from_residual-in_err-answer-in-Ok.result ≡ Err c.in_err-answer-in-Ok.field-0.0 = search rules in
    leaves-died _ _ _ _ _ _ _ _ _ _ e refl (lost-replace _ _ _ _ _ _ _ _ _ c.in_ok-receiver.ensures.does c.in_ok-first.ensures.does c.in_ok-last.ensures.does c.in_ok-source.ensures.does c.in_ok-from.ensures.does c.in-Ok.ensures.does c.in_err-answer-in-Ok.ensures.does.does)

pub returns-in_err-from-clause-does : goal.returns-in_err-from-clause-does
returns-in_err-from-clause-does g c =
    let e : c.from_residual-in_err-from.result ≡ Err c.in_err-from.field-0.0 = search rules in
    leaves-died _ _ _ _ _ _ _ _ _ _ e refl (died-replace _ _ _ _ _ _ _ c.in_ok-receiver.ensures.does c.in_ok-first.ensures.does c.in_ok-last.ensures.does c.in_ok-source.ensures.does c.in_err-from.ensures.does)

pub returns-in-Err-clause-does : goal.returns-in-Err-clause-does
returns-in-Err-clause-does g c = record {
  does = failed-replace _ _ _ _ _ _ _ _ c.in_ok-receiver.ensures.does c.in_ok-first.ensures.does c.in_ok-last.ensures.does c.in_ok-source.ensures.does c.in_ok-from.ensures.does c.in-Err.ensures.does;
  world = refl;
}

pub returns-in_err-receiver-clause-does : goal.returns-in_err-receiver-clause-does
unfolding primitive_replace
returns-in_err-receiver-clause-does g c = grind (arith, effects)

pub returns-in_err-first-clause-does : goal.returns-in_err-first-clause-does
unfolding primitive_replace
returns-in_err-first-clause-does g c = grind (arith, effects)

pub returns-in_err-last-clause-does : goal.returns-in_err-last-clause-does
unfolding primitive_replace
returns-in_err-last-clause-does g c = grind (arith, effects)

pub returns-in_err-source-clause-does : goal.returns-in_err-source-clause-does
unfolding primitive_replace
returns-in_err-source-clause-does g c = grind (arith, effects)
