use Rattle.std.proofs.Common.{arith}
use Rattle.st_input.proofs.Done.{times}
use Rattle.st_input.proofs.units.store_time.Goals as goal

pub returns : goal.returns
returns g c = grind (arith, times)
