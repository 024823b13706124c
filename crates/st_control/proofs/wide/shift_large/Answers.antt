use Rattle.st_control.proofs.WideTries.{shift-done}
use Rattle.std.proofs.Common.{arith}
use Rattle.st_frames.proofs.Tries.{effects}
use Rattle.st_model.specs.Arithmetic.{shift_large}
use Rattle.st_control.proofs.wide.shift_large.Goals as goal

pub returns-in-Ok-clause-does : goal.returns-in-Ok-clause-does
returns-in-Ok-clause-does g c = record {
  does = shift-done _ _ _ _ c.in-Ok.ensures.does c.answer_large.ensures.does.does;
  world = c.answer_large.ensures.does.world;
}

pub returns-in-Err-clause-does : goal.returns-in-Err-clause-does
unfolding shift_large
returns-in-Err-clause-does g c = grind (arith, effects)
