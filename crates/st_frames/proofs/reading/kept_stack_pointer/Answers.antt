use Rattle.std.proofs.Common.{arith}
use Rattle.st_model.proofs.Runs.{runs}
use Rattle.st_model.specs.Contexts.{fetch_stack_pointer}
use Rattle.st_frames.proofs.reading.kept_stack_pointer.Goals as goal

pub returns-in_err-stored-clause-place : goal.returns-in_err-stored-clause-place
unfolding fetch_stack_pointer
returns-in_err-stored-clause-place g c = grind (arith, runs)

pub returns-clause-place : goal.returns-clause-place
unfolding fetch_stack_pointer
returns-clause-place g c = grind (arith, runs)
