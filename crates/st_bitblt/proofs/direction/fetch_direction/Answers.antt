use Rattle.std.proofs.Common.{arith}
use Rattle.st_model.proofs.Runs.{runs}
use Rattle.st_model.specs.BitBlt.{fetch_axis}
use Rattle.st_bitblt.proofs.direction.fetch_direction.Goals as goal

pub returns-in_err-to-clause-does : goal.returns-in_err-to-clause-does
unfolding fetch_axis
returns-in_err-to-clause-does g c = grind (arith, runs)

pub returns-in_err-count-clause-does : goal.returns-in_err-count-clause-does
unfolding fetch_axis
returns-in_err-count-clause-does g c = grind (arith, runs)

pub returns-in_err-from-clause-does : goal.returns-in_err-from-clause-does
unfolding fetch_axis
returns-in_err-from-clause-does g c = grind (arith, runs)

pub returns-in_err-clip-clause-does : goal.returns-in_err-clip-clause-does
unfolding fetch_axis
returns-in_err-clip-clause-does g c = grind (arith, runs)

pub returns-in_err-clip_count-clause-does : goal.returns-in_err-clip_count-clause-does
unfolding fetch_axis
returns-in_err-clip_count-clause-does g c = grind (arith, runs)

pub returns-clause-does : goal.returns-clause-does
unfolding fetch_axis
returns-clause-does g c = grind (arith, runs)
