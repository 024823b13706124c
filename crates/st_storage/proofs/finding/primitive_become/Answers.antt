use Rattle.st_storage.proofs.ObjectTries.{tried-become}
use Rattle.std.proofs.Common.{arith}
use Rattle.st_frames.proofs.Tries.{effects}
use Rattle.st_model.specs.Storage.{primitive_become}
use Rattle.st_storage.proofs.finding.primitive_become.Goals as goal

pub returns-in-Ok-clause-does : goal.returns-in-Ok-clause-does
returns-in-Ok-clause-does g c = record {
  does = tried-become _ _ _ _ _ _ c.in_ok-receiver.ensures.does c.in_ok-argument.ensures.does c.in-Ok.ensures.does c.exchange_and_answer.ensures.does.does;
  world = c.exchange_and_answer.ensures.does.world;
}

pub returns-in_err-receiver-clause-does : goal.returns-in_err-receiver-clause-does
unfolding primitive_become
returns-in_err-receiver-clause-does g c = grind (arith, effects)

pub returns-in_err-argument-clause-does : goal.returns-in_err-argument-clause-does
unfolding primitive_become
returns-in_err-argument-clause-does g c = grind (arith, effects)

pub returns-in-Err-clause-does : goal.returns-in-Err-clause-does
unfolding primitive_become
returns-in-Err-clause-does g c = grind (arith, effects)
