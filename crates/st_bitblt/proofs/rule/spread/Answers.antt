use Rattle.std.proofs.Common.{arith}
use Rattle.std.proofs.lemmas.Nat.Bits.{shr_and_one}
use Rattle.st_bitblt.proofs.Bits.{ones_bit}
use Rattle.st_bitblt.proofs.rule.spread.Goals as goal

pub returns-then-number-place-eq1 : goal.returns-then-number-place-eq1
returns-then-number-place-eq1 c = λ j h. grind (arith, ones_bit, shr_and_one)
