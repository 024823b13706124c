use Rattle.st_process.proofs.InputTries.{tried-input_word}
use Rattle.std.proofs.Common.{arith}
use Rattle.st_frames.proofs.Tries.{effects}
use Rattle.st_model.specs.Input.{primitive_input_word}
use Rattle.st_process.proofs.devices.primitive_input_word.Goals as goal

pub returns-in-Ok-clause-does : goal.returns-in-Ok-clause-does
returns-in-Ok-clause-does g c = record {
  does = tried-input_word _ _ _ _ c.in-Ok.ensures.does c.answer_word_taken.ensures.does.does;
  world = c.answer_word_taken.ensures.does.world;
}

pub returns-in-Err-clause-does : goal.returns-in-Err-clause-does
unfolding primitive_input_word
returns-in-Err-clause-does g c = grind (arith, effects)
