use Rattle.std.proofs.Common.{arith}
use Rattle.st_input.proofs.Done.{gone_stays}
use Rattle.st_input.proofs.units.store_byte.Goals as goal

pub returns-in-Some : goal.returns-in-Some
returns-in-Some g c = grind (arith, gone_stays)

pub returns-in_default : goal.returns-in_default
returns-in_default g c = grind (arith, gone_stays)
