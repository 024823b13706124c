use Rattle.st_control.proofs.WideTries.{large-done}
use Rattle.std.proofs.Common.{arith}
use Rattle.st_frames.proofs.Tries.{effects}
use Rattle.st_model.specs.Arithmetic.{large_arithmetic}
use Rattle.st_control.proofs.wide.large_arithmetic.Goals as goal

pub returns-in-Ok-clause-does : goal.returns-in-Ok-clause-does
returns-in-Ok-clause-does g c = record {
  does = large-done _ _ _ _ _ c.in-Ok.ensures.does c.answer_large.ensures.does.does;
  world = c.answer_large.ensures.does.world;
}

pub returns-in-Err-clause-does : goal.returns-in-Err-clause-does
unfolding large_arithmetic
returns-in-Err-clause-does g c = grind (arith, effects)
