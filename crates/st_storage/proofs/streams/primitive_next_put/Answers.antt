use Rattle.st_storage.proofs.StreamTries.{tried-next_put}
use Rattle.std.proofs.Common.{arith}
use Rattle.st_frames.proofs.Tries.{effects}
use Rattle.st_model.specs.Storage.{primitive_next_put}
use Rattle.st_storage.proofs.streams.primitive_next_put.Goals as goal

pub returns-in-Ok-clause-does : goal.returns-in-Ok-clause-does
returns-in-Ok-clause-does g c = record {
  does = tried-next_put _ _ _ _ _ _ c.in_ok-receiver.ensures.does c.in_ok-argument.ensures.does c.in-Ok.ensures.does (rw (c.in-Ok.ensures.of, c.in-Ok.ensures.value) at c.answer_put.ensures.does.does);
  world = c.answer_put.ensures.does.world;
}

pub returns-in_err-receiver-clause-does : goal.returns-in_err-receiver-clause-does
unfolding primitive_next_put
returns-in_err-receiver-clause-does g c = grind (arith, effects)

pub returns-in_err-argument-clause-does : goal.returns-in_err-argument-clause-does
unfolding primitive_next_put
returns-in_err-argument-clause-does g c = grind (arith, effects)

pub returns-in-Err-clause-does : goal.returns-in-Err-clause-does
unfolding primitive_next_put
returns-in-Err-clause-does g c = grind (arith, effects)
