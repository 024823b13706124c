use Rattle.std.proofs.Common.{rules, ◌≡◌, Err, refl, arith}
use Rattle.st_frames.proofs.Leaves.{leaves-died}
use Rattle.st_storage.proofs.MethodTries.{tried-new_method, died-new_method}
use Rattle.st_frames.proofs.Tries.{effects}
use Rattle.st_model.specs.Storage.{primitive_new_method}
use Rattle.st_storage.proofs.compiled_methods.primitive_new_method.Goals as goal

pub returns-in_err-answer-in-Ok-clause-does : goal.returns-in_err-answer-in-Ok-clause-does
returns-in_err-answer-in-Ok-clause-does g c =
    let e : c.from_residual-in_err-answer-in-Ok.result ≡ Err c.in_err-answer-in-Ok.field-0.0 = search rules in
    leaves-died _ _ _ _ _ _ _ _ _ _ e refl (died-new_method _ _ _ _ _ _ _ c.in_ok-receiver.ensures.does c.in_ok-count.ensures.does c.in_ok-header.ensures.does c.in-Ok.ensures.does (rw c.in-Ok.ensures.class at c.in_err-answer-in-Ok.ensures.does.does))

pub returns-in_ok-answer-in-Ok-clause-does : goal.returns-in_ok-answer-in-Ok-clause-does
returns-in_ok-answer-in-Ok-clause-does g c = record {
  does = tried-new_method _ _ _ _ _ _ _ _ _ c.in_ok-receiver.ensures.does c.in_ok-count.ensures.does c.in_ok-header.ensures.does c.in-Ok.ensures.does (rw c.in-Ok.ensures.class at c.in_ok-answer-in-Ok.ensures.does.does) c.succeed_leaving.ensures.does.does;
  world = search rules;
}

pub returns-in_err-receiver-clause-does : goal.returns-in_err-receiver-clause-does
unfolding primitive_new_method
returns-in_err-receiver-clause-does g c = grind (arith, effects)

pub returns-in_err-count-clause-does : goal.returns-in_err-count-clause-does
unfolding primitive_new_method
returns-in_err-count-clause-does g c = grind (arith, effects)

pub returns-in_err-header-clause-does : goal.returns-in_err-header-clause-does
unfolding primitive_new_method
returns-in_err-header-clause-does g c = grind (arith, effects)

pub returns-in-Err-clause-does : goal.returns-in-Err-clause-does
unfolding primitive_new_method
returns-in-Err-clause-does g c = grind (arith, effects)
