use Rattle.st_process.proofs.InputTries.{tried-input_semaphore}
use Rattle.std.proofs.Common.{arith}
use Rattle.st_frames.proofs.Tries.{effects}
use Rattle.st_model.specs.Input.{primitive_input_semaphore}
use Rattle.st_process.proofs.devices.primitive_input_semaphore.Goals as goal

pub returns-in-Ok-clause-does : goal.returns-in-Ok-clause-does
returns-in-Ok-clause-does g c = record {
  does = tried-input_semaphore _ _ _ _ _ c.in_ok-receiver.ensures.does c.in_ok-argument.ensures.does c.in-Ok.ensures.does c.answer_held.ensures.does.does;
  world = c.answer_held.ensures.does.world;
}

pub returns-in_err-receiver-clause-does : goal.returns-in_err-receiver-clause-does
unfolding primitive_input_semaphore
returns-in_err-receiver-clause-does g c = grind (arith, effects)

pub returns-in_err-argument-clause-does : goal.returns-in_err-argument-clause-does
unfolding primitive_input_semaphore
returns-in_err-argument-clause-does g c = grind (arith, effects)

pub returns-in-Err-clause-does : goal.returns-in-Err-clause-does
unfolding primitive_input_semaphore
returns-in-Err-clause-does g c = grind (arith, effects)
