-- Which primitive has which number, and how many arguments it takes (chapter 29).
use Rattle.std.specs.Prelude.{ℕ, ◌≤◌, ◌==◌, Option, Some, None, nat_le, if◌then◌else◌, get_or, ⊤}
use Rattle.st_model.specs.declared.primitive.Primitive.{Primitive}
use Rattle.st_model.specs.declared.primitive.Primitive.TheVariants.{Arithmetic, LargeArithmetic}
use Rattle.st_model.specs.declared.primitive.PrimitiveRow.{PrimitiveRow}
use Rattle.st_model.specs.declared.primitive.PrimitiveRow.TheVariants.{Unassigned, Exactly, AtLeast}
use Rattle.st_model.specs.declared.primitives.TheConstants.{PRIMITIVES}

-- The table is `PRIMITIVES` in `src/primitives.rt`: a row for each number from 0 to 128. No greater number has a primitive.
unfoldable pub row_of : ℕ → PrimitiveRow
row_of k = get_or PRIMITIVES k Unassigned

-- the primitive of a row, if it takes n arguments
unfoldable pub with_arguments : ℕ → PrimitiveRow → Option Primitive
with_arguments n Unassigned = None
with_arguments n (Exactly count p) = if n == count then Some p else None
with_arguments n (AtLeast count p) = if nat_le count n then Some p else None

-- the primitive of number k, if it takes n arguments
unfoldable pub primitive_of : ℕ → ℕ → Option Primitive
primitive_of k n = with_arguments n (row_of k)

-- the range of a primitive's number
abbrev pub IsNumberedPrimitive : Primitive → Type 0
IsNumberedPrimitive (Arithmetic k) = (1 ≤ k) × (k ≤ 18)
IsNumberedPrimitive (LargeArithmetic k) = (21 ≤ k) × (k ≤ 36)
IsNumberedPrimitive p = ⊤

abbrev pub IsNumberedRow : PrimitiveRow → Type 0
IsNumberedRow Unassigned = ⊤
IsNumberedRow (Exactly count p) = IsNumberedPrimitive p
IsNumberedRow (AtLeast count p) = IsNumberedPrimitive p

abbrev pub IsNumberedIfAny : Option Primitive → Type 0
IsNumberedIfAny None = ⊤
IsNumberedIfAny (Some p) = IsNumberedPrimitive p
