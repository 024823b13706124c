use Rattle.std.proofs.Common.{arith}
use Rattle.st_model.proofs.Runs.{runs}
use Rattle.st_frames.proofs.Homes.{homes}
use Rattle.st_model.specs.Contexts.{home_of}
use Rattle.st_frames.proofs.reading.kept_registers.Goals as goal

pub returns-in_err-own-clause-home : goal.returns-in_err-own-clause-home
unfolding home_of
returns-in_err-own-clause-home g c = grind (arith, runs, homes)

pub returns-in_err-own-clause-method : goal.returns-in_err-own-clause-method
unfolding home_of
returns-in_err-own-clause-method g c = grind (arith, runs, homes)

pub returns-in_err-own-clause-receiver : goal.returns-in_err-own-clause-receiver
unfolding home_of
returns-in_err-own-clause-receiver g c = grind (arith, runs, homes)

pub returns-in_err-own-clause-instruction_pointer : goal.returns-in_err-own-clause-instruction_pointer
unfolding home_of
returns-in_err-own-clause-instruction_pointer g c = grind (arith, runs, homes)

pub returns-in_err-own-clause-stack_pointer : goal.returns-in_err-own-clause-stack_pointer
unfolding home_of
returns-in_err-own-clause-stack_pointer g c = grind (arith, runs, homes)

pub returns-in_err-own-clause-count : goal.returns-in_err-own-clause-count
unfolding home_of
returns-in_err-own-clause-count g c = grind (arith, runs, homes)

pub returns-then-not-is_small-clause-home : goal.returns-then-not-is_small-clause-home
unfolding home_of
returns-then-not-is_small-clause-home g c = grind (arith, runs, homes)

pub returns-then-not-is_small-clause-method : goal.returns-then-not-is_small-clause-method
unfolding home_of
returns-then-not-is_small-clause-method g c = grind (arith, runs, homes)

pub returns-then-not-is_small-clause-receiver : goal.returns-then-not-is_small-clause-receiver
unfolding home_of
returns-then-not-is_small-clause-receiver g c = grind (arith, runs, homes)

pub returns-then-not-is_small-clause-instruction_pointer : goal.returns-then-not-is_small-clause-instruction_pointer
unfolding home_of
returns-then-not-is_small-clause-instruction_pointer g c = grind (arith, runs, homes)

pub returns-then-not-is_small-clause-stack_pointer : goal.returns-then-not-is_small-clause-stack_pointer
unfolding home_of
returns-then-not-is_small-clause-stack_pointer g c = grind (arith, runs, homes)

pub returns-then-not-is_small-clause-count : goal.returns-then-not-is_small-clause-count
unfolding home_of
returns-then-not-is_small-clause-count g c = grind (arith, runs, homes)

pub returns-in_err-home-clause-home : goal.returns-in_err-home-clause-home
unfolding home_of
returns-in_err-home-clause-home g c = grind (arith, runs, homes)

pub returns-in_err-home-clause-method : goal.returns-in_err-home-clause-method
unfolding home_of
returns-in_err-home-clause-method g c = grind (arith, runs, homes)

pub returns-in_err-home-clause-receiver : goal.returns-in_err-home-clause-receiver
unfolding home_of
returns-in_err-home-clause-receiver g c = grind (arith, runs, homes)

pub returns-in_err-home-clause-instruction_pointer : goal.returns-in_err-home-clause-instruction_pointer
unfolding home_of
returns-in_err-home-clause-instruction_pointer g c = grind (arith, runs, homes)

pub returns-in_err-home-clause-stack_pointer : goal.returns-in_err-home-clause-stack_pointer
unfolding home_of
returns-in_err-home-clause-stack_pointer g c = grind (arith, runs, homes)

pub returns-in_err-home-clause-count : goal.returns-in_err-home-clause-count
unfolding home_of
returns-in_err-home-clause-count g c = grind (arith, runs, homes)

pub returns-clause-home : goal.returns-clause-home
unfolding home_of
returns-clause-home g c = grind (arith, runs, homes)

pub returns-clause-method : goal.returns-clause-method
unfolding home_of
returns-clause-method g c = grind (arith, runs, homes)

pub returns-clause-receiver : goal.returns-clause-receiver
unfolding home_of
returns-clause-receiver g c = grind (arith, runs, homes)

pub returns-clause-instruction_pointer : goal.returns-clause-instruction_pointer
unfolding home_of
returns-clause-instruction_pointer g c = grind (arith, runs, homes)

pub returns-clause-stack_pointer : goal.returns-clause-stack_pointer
unfolding home_of
returns-clause-stack_pointer g c = grind (arith, runs, homes)

pub returns-clause-count : goal.returns-clause-count
unfolding home_of
returns-clause-count g c = grind (arith, runs, homes)
