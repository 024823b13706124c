-- What an answer of a primitive on two SmallIntegers keeps to.
use Rattle.std.specs.Prelude.{ℤ, pos, negsuc, ◌≤ℤ◌}
use Rattle.st_model.specs.declared.integers.IntAnswer.{IntAnswer}
use Rattle.st_model.specs.declared.integers.IntAnswer.TheVariants.{Number, Truth, Point}

-- from -16384 to 16383
pub record IsSmall (z : ℤ) : Type 0 where
  pub low : negsuc 16383 ≤ℤ z
  pub high : z ≤ℤ pos 16383

-- its integers are SmallIntegers
abbrev pub IsOfSmall : IntAnswer → Type 0
IsOfSmall (Number n) = IsSmall n
IsOfSmall (Truth b) = Unit {0}
IsOfSmall (Point x y) = IsSmall x × IsSmall y
