use Rattle.std.proofs.Common.{refl, arith}
use Rattle.st_step.proofs.Performed.{spread-performs, spread-fails}
use Rattle.st_frames.proofs.Doing.{rows}
use Rattle.st_model.specs.Executing.{primitive_perform_with}
use Rattle.st_step.proofs.perform.primitive_perform_with.Goals as goal

pub returns-in-Ok-clause-does : goal.returns-in-Ok-clause-does
returns-in-Ok-clause-does g c = record {
  does = spread-performs _ _ _ _ _ c.in_ok-receiver.ensures.does c.in_ok-selector.ensures.does c.in_ok-array.ensures.does _ _ c.in-Ok.ensures.does c.perform_fields.ensures.does.does;
  world = c.perform_fields.ensures.does.world;
}

pub returns-in-Err-clause-does : goal.returns-in-Err-clause-does
returns-in-Err-clause-does g c = record {
  does = spread-fails _ _ _ _ _ c.in_ok-receiver.ensures.does c.in_ok-selector.ensures.does c.in_ok-array.ensures.does _ c.in-Err.ensures.does;
  world = refl;
}

pub returns-in_err-receiver-clause-does : goal.returns-in_err-receiver-clause-does
unfolding primitive_perform_with
returns-in_err-receiver-clause-does g c = grind (arith, rows)

pub returns-in_err-selector-clause-does : goal.returns-in_err-selector-clause-does
unfolding primitive_perform_with
returns-in_err-selector-clause-does g c = grind (arith, rows)

pub returns-in_err-array-clause-does : goal.returns-in_err-array-clause-does
unfolding primitive_perform_with
returns-in_err-array-clause-does g c = grind (arith, rows)
