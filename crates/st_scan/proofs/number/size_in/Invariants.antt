use Rattle.std.proofs.Common.{◌≡◌, drop}
use Rattle.st_scan.proofs.Numerals.{with_digits}
use Rattle.st_scan.proofs.number.size_in.Given as goal

abbrev pub invariant-loop-digit : goal.invariant-loop-digit
invariant-loop-digit l = with_digits l.size l.base (drop l.digit-index l.digits) ≡ with_digits 0 l.base l.digits
