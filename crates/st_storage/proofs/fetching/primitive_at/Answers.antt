use Rattle.st_storage.proofs.ElementTries.{tried-at}
use Rattle.std.proofs.Common.{arith}
use Rattle.st_frames.proofs.Tries.{effects}
use Rattle.st_model.specs.Storage.{primitive_at}
use Rattle.st_storage.proofs.fetching.primitive_at.Goals as goal

pub returns-in-Ok-clause-does : goal.returns-in-Ok-clause-does
returns-in-Ok-clause-does g c = record {
  does = tried-at _ _ _ _ _ _ c.in_ok-object.ensures.does c.in_ok-index.ensures.does c.in-Ok.ensures.does c.answer_element.ensures.does.does;
  world = c.answer_element.ensures.does.world;
}

pub returns-in_err-object-clause-does : goal.returns-in_err-object-clause-does
unfolding primitive_at
returns-in_err-object-clause-does g c = grind (arith, effects)

pub returns-in_err-index-clause-does : goal.returns-in_err-index-clause-does
unfolding primitive_at
returns-in_err-index-clause-does g c = grind (arith, effects)

pub returns-in-Err-clause-does : goal.returns-in-Err-clause-does
unfolding primitive_at
returns-in-Err-clause-does g c = grind (arith, effects)
