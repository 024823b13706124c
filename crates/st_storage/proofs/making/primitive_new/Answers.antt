use Rattle.st_storage.proofs.ObjectTries.{tried-new}
use Rattle.std.proofs.Common.{arith}
use Rattle.st_frames.proofs.Tries.{effects}
use Rattle.st_model.specs.Storage.{primitive_new}
use Rattle.st_storage.proofs.making.primitive_new.Goals as goal

pub returns-in-Ok-clause-does : goal.returns-in-Ok-clause-does
returns-in-Ok-clause-does g c = record {
  does = tried-new _ _ _ _ _ c.in_ok-receiver.ensures.does c.in-Ok.ensures.does c.answer_fixed.ensures.does.does;
  world = c.answer_fixed.ensures.does.world;
}

pub returns-in_err-receiver-clause-does : goal.returns-in_err-receiver-clause-does
unfolding primitive_new
returns-in_err-receiver-clause-does g c = grind (arith, effects)

pub returns-in-Err-clause-does : goal.returns-in-Err-clause-does
unfolding primitive_new
returns-in-Err-clause-does g c = grind (arith, effects)
