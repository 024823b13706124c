-- What the code reads from the digits of a number.
use Rattle.std.specs.Prelude.{ℕ, ◌+◌, ◌*◌, ◌&&◌, nat_lt, nat_le, List, Option, Some, None, if◌then◌else◌}
use Rattle.std.specs.Char.{digit_value}
use Rattle.std.specs.Str.Parse.{digits_value}
use Rattle.st_scan.specs.declared.number.Numeral.{Numeral}
use Rattle.st_scan.specs.declared.number.Numeral.TheVariants.{Decimal, Radix}
use Rattle.st_scan.specs.Pieces.{Digits, decimal, radix, size, greatest, fits, is_allowed}

-- the digits, without where they lie
abbrev pub digits_of : Numeral → Digits
digits_of (Decimal ds) = decimal ds.now
digits_of (Radix rs ds) = radix rs.now ds.now

-- the size of a number that is allowed
abbrev pub allowed_size : Digits → Option ℕ
allowed_size ds = if is_allowed ds then Some (size ds) else None

-- a size with one more digit behind it, if the digit is below the base and the size at most the greatest
abbrev pub with_digit : ℕ → ℕ → ℕ → Option ℕ
with_digit n base d = if nat_lt (digit_value d) base && nat_le (n * base + digit_value d) greatest then Some (n * base + digit_value d) else None

-- the size of digits, if they fit
abbrev pub size_in : ℕ → List ℕ → Option ℕ
size_in base ds = if fits base ds then Some (digits_value base ds) else None
