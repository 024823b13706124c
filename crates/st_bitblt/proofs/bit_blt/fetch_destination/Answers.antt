use Rattle.std.proofs.Common.{arith}
use Rattle.st_model.proofs.Runs.{runs}
use Rattle.st_model.specs.BitBlt.{fetch_destination}
use Rattle.st_bitblt.proofs.bit_blt.fetch_destination.Goals as goal

pub returns-in_err-o-clause-does : goal.returns-in_err-o-clause-does
unfolding fetch_destination
returns-in_err-o-clause-does g c = grind (arith, runs)

pub returns-clause-does : goal.returns-clause-does
unfolding fetch_destination
returns-clause-does g c = grind (arith, runs)
