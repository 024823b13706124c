use Rattle.std.proofs.Common.{arith}
use Rattle.st_model.proofs.Runs.{runs}
use Rattle.st_model.specs.Contexts.{stack_place}
use Rattle.st_frames.proofs.reading.stack_place.Goals as goal

pub returns-then-stored-lt0-clause-place : goal.returns-then-stored-lt0-clause-place
unfolding stack_place
returns-then-stored-lt0-clause-place g c = grind (arith, runs)

pub returns-then-sp-gt16388-clause-place : goal.returns-then-sp-gt16388-clause-place
unfolding stack_place
returns-then-sp-gt16388-clause-place g c = grind (arith, runs)

pub returns-then-fields-sp-clause-place : goal.returns-then-fields-sp-clause-place
unfolding stack_place
returns-then-fields-sp-clause-place g c = grind (arith, runs)

pub returns-clause-place : goal.returns-clause-place
unfolding stack_place
returns-clause-place g c = grind (arith, runs)
