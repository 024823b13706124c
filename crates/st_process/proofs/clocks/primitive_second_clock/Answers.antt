use Rattle.st_process.proofs.InputTries.{tried-second_clock}
use Rattle.std.proofs.Common.{arith}
use Rattle.st_frames.proofs.Tries.{effects}
use Rattle.st_model.specs.Input.{primitive_second_clock}
use Rattle.st_process.proofs.clocks.primitive_second_clock.Goals as goal

pub returns-in-Ok-clause-does : goal.returns-in-Ok-clause-does
returns-in-Ok-clause-does g c = record {
  does = tried-second_clock _ _ _ _ _ c.in_ok-receiver.ensures.does c.in_ok-argument.ensures.does c.in-Ok.ensures.does c.answer_seconds.ensures.does.does;
  world = c.answer_seconds.ensures.does.world;
}

pub returns-in_err-receiver-clause-does : goal.returns-in_err-receiver-clause-does
unfolding primitive_second_clock
returns-in_err-receiver-clause-does g c = grind (arith, effects)

pub returns-in_err-argument-clause-does : goal.returns-in_err-argument-clause-does
unfolding primitive_second_clock
returns-in_err-argument-clause-does g c = grind (arith, effects)

pub returns-in-Err-clause-does : goal.returns-in-Err-clause-does
unfolding primitive_second_clock
returns-in-Err-clause-does g c = grind (arith, effects)
