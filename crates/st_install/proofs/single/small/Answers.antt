use Rattle.std.proofs.Common.{◌+◌, ◌*◌, refl}
use Rattle.st_install.proofs.Numbers.{small_bits}
use Rattle.st_install.proofs.single.small.Goals as goal

pub returns : goal.returns
returns c = small_bits c.args.bits (2 * c.args.bits + 1) refl
