use Rattle.st_storage.proofs.ObjectTries.{tried-new_with}
use Rattle.std.proofs.Common.{arith}
use Rattle.st_frames.proofs.Tries.{effects}
use Rattle.st_model.specs.Storage.{primitive_new_with}
use Rattle.st_storage.proofs.making.primitive_new_with.Goals as goal

pub returns-in-Ok-clause-does : goal.returns-in-Ok-clause-does
returns-in-Ok-clause-does g c = record {
  does = tried-new_with _ _ _ _ _ _ c.in_ok-receiver.ensures.does c.in_ok-count.ensures.does c.in-Ok.ensures.does c.answer_shaped.ensures.does.does;
  world = c.answer_shaped.ensures.does.world;
}

pub returns-in_err-receiver-clause-does : goal.returns-in_err-receiver-clause-does
unfolding primitive_new_with
returns-in_err-receiver-clause-does g c = grind (arith, effects)

pub returns-in_err-count-clause-does : goal.returns-in_err-count-clause-does
unfolding primitive_new_with
returns-in_err-count-clause-does g c = grind (arith, effects)

pub returns-in-Err-clause-does : goal.returns-in-Err-clause-does
unfolding primitive_new_with
returns-in-Err-clause-does g c = grind (arith, effects)
