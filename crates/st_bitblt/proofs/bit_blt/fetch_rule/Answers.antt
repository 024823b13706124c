use Rattle.std.proofs.Common.{arith}
use Rattle.st_model.proofs.Runs.{runs, tests}
use Rattle.st_model.specs.BitBlt.{fetch_rule}
use Rattle.st_bitblt.proofs.bit_blt.fetch_rule.Goals as goal

pub returns-in_err-rule-clause-does : goal.returns-in_err-rule-clause-does
unfolding fetch_rule
returns-in_err-rule-clause-does g c = grind (arith, runs, tests)

pub returns-then-rule-lt16-clause-does : goal.returns-then-rule-lt16-clause-does
unfolding fetch_rule
returns-then-rule-lt16-clause-does g c = grind (arith, runs, tests)

pub returns-else-rule-lt16-clause-does : goal.returns-else-rule-lt16-clause-does
unfolding fetch_rule
returns-else-rule-lt16-clause-does g c = grind (arith, runs, tests)
