use Rattle.st_storage.proofs.ObjectTries.{tried-as_oop}
use Rattle.std.proofs.Common.{arith}
use Rattle.st_frames.proofs.Tries.{tries}
use Rattle.st_model.specs.Storage.{primitive_as_oop}
use Rattle.st_storage.proofs.finding.primitive_as_oop.Goals as goal

pub returns-in-Ok-clause-does : goal.returns-in-Ok-clause-does
returns-in-Ok-clause-does g c = record {
  does = tried-as_oop _ _ _ _ _ _ c.in_ok-receiver.ensures.does c.in-Ok.ensures.does c.small_word.ensures c.succeed_with.ensures.does.does;
  world = c.succeed_with.ensures.does.world;
}

pub returns-in_err-receiver-clause-does : goal.returns-in_err-receiver-clause-does
unfolding primitive_as_oop
returns-in_err-receiver-clause-does g c = grind (arith, tries)

pub returns-in-Err-clause-does : goal.returns-in-Err-clause-does
unfolding primitive_as_oop
returns-in-Err-clause-does g c = grind (arith, tries)
