use Rattle.std.proofs.Common.{arith}
use Rattle.st_model.proofs.Runs.{runs}
use Rattle.st_model.specs.Contexts.{fetch_stack_pointer, stack_place}
use Rattle.st_frames.proofs.reading.fetch_stack_pointer.Goals as goal

pub returns-in_err-stored-clause-place : goal.returns-in_err-stored-clause-place
unfolding fetch_stack_pointer stack_place
returns-in_err-stored-clause-place g c = grind (arith, runs)

pub returns-then-stored-ltminus5-clause-place : goal.returns-then-stored-ltminus5-clause-place
unfolding fetch_stack_pointer stack_place
returns-then-stored-ltminus5-clause-place g c = grind (arith, runs)

pub returns-in_err-fields-clause-place : goal.returns-in_err-fields-clause-place
unfolding fetch_stack_pointer stack_place
returns-in_err-fields-clause-place g c = grind (arith, runs)
