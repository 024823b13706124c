use Rattle.st_storage.proofs.ObjectTries.{tried-core_left, free-is}
use Rattle.st_storage.proofs.space.primitive_core_left.Goals as goal

pub returns-clause-does : goal.returns-clause-does
returns-clause-does g c = record {
  does = tried-core_left _ _ _ _ (free-is _ _ _ _ _ c.free-free.ensures) c.answer_number.ensures.does.does;
  world = c.answer_number.ensures.does.world;
}
