-- What the table of primitives has is in range.
use Rattle.std.proofs.Common.{◌≡◌, ℕ, zero, suc, Bool, true, false, ◌&&◌, List, [], ◌∷◌, get_or, refl, arith}
use Rattle.std.specs.Prelude.{nat_le}
use Rattle.std.proofs.lemmas.Bool.Decides.{nat_tests}
use Rattle.st_model.specs.declared.primitive.Primitive.{Primitive}
use Rattle.st_model.specs.declared.primitive.Primitive.TheVariants.{Arithmetic, LargeArithmetic}
use Rattle.st_model.specs.declared.primitive.PrimitiveRow.{PrimitiveRow}
use Rattle.st_model.specs.declared.primitive.PrimitiveRow.TheVariants.{Unassigned, Exactly, AtLeast}
use Rattle.st_model.specs.declared.primitives.TheConstants.{PRIMITIVES}
use Rattle.st_model.specs.PrimitiveTable.{IsNumberedPrimitive, IsNumberedRow}

is_numbered : Primitive → Bool
is_numbered (Arithmetic k) = nat_le 1 k && nat_le k 18
is_numbered (LargeArithmetic k) = nat_le 21 k && nat_le k 36
is_numbered p = true

is_numbered_row : PrimitiveRow → Bool
is_numbered_row Unassigned = true
is_numbered_row (Exactly n p) = is_numbered p
is_numbered_row (AtLeast n p) = is_numbered p

numbered : (p : Primitive) → is_numbered p ≡ true → IsNumberedPrimitive p
unfolding is_numbered
numbered (Arithmetic k) h = grind (arith, nat_tests, h)
numbered (LargeArithmetic k) h = grind (arith, nat_tests, h)
numbered p h = tt

numbered_row : (r : PrimitiveRow) → is_numbered_row r ≡ true → IsNumberedRow r
unfolding is_numbered_row
numbered_row Unassigned h = tt
numbered_row (Exactly n p) h = numbered p h
numbered_row (AtLeast n p) h = numbered p h

all_numbered : List PrimitiveRow → Bool
all_numbered [] = true
all_numbered (r ∷ rs) = is_numbered_row r && all_numbered rs

both_of : (x y : Bool) → (x && y) ≡ true → (x ≡ true) × (y ≡ true)
both_of true true h = (refl, refl)
both_of true false h = cc
both_of false y h = cc

numbered_from : (rs : List PrimitiveRow) (i : ℕ) (d : PrimitiveRow) → all_numbered rs ≡ true → IsNumberedRow d → IsNumberedRow (get_or rs i d)
unfolding all_numbered
numbered_from [] i d h e = e
numbered_from (r ∷ rs) zero d h e = numbered_row r (both_of (is_numbered_row r) (all_numbered rs) h).0
numbered_from (r ∷ rs) (suc i) d h e = numbered_from rs i d (both_of (is_numbered_row r) (all_numbered rs) h).1 e

in_range : all_numbered PRIMITIVES ≡ true
unfolding all_numbered is_numbered_row is_numbered
in_range = refl

pub row_numbered : (i : ℕ) (d : PrimitiveRow) → IsNumberedRow d → IsNumberedRow (get_or PRIMITIVES i d)
row_numbered i d e = numbered_from PRIMITIVES i d in_range e
