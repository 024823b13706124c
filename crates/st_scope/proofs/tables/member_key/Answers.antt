use Rattle.std.proofs.Common.{arith}
use Rattle.st_model.proofs.Runs.{runs}
use Rattle.st_scope.specs.Tables.{member_key}
use Rattle.st_scope.proofs.tables.member_key.Goals as goal

pub returns-in_err-check_fields-clause-key : goal.returns-in_err-check_fields-clause-key
unfolding member_key
returns-in_err-check_fields-clause-key g c = grind (arith, runs)

pub returns-clause-key : goal.returns-clause-key
unfolding member_key
returns-clause-key g c = grind (arith, runs)
