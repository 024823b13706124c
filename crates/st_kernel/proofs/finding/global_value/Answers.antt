use Rattle.std.proofs.Common.{arith}
use Rattle.st_model.proofs.Runs.{runs}
use Rattle.st_kernel.specs.Starting.{global_value}
use Rattle.st_kernel.proofs.finding.global_value.Goals as goal

pub returns-in_err-globals-clause-value : goal.returns-in_err-globals-clause-value
unfolding global_value
returns-in_err-globals-clause-value g c = grind (arith, runs)

pub returns-in_err-member_named-clause-value : goal.returns-in_err-member_named-clause-value
unfolding global_value
returns-in_err-member_named-clause-value g c = grind (arith, runs)

pub returns-in_err-association-clause-value : goal.returns-in_err-association-clause-value
unfolding global_value
returns-in_err-association-clause-value g c = grind (arith, runs)

pub returns-clause-value : goal.returns-clause-value
unfolding global_value
returns-clause-value g c = grind (arith, runs)
