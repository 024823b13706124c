-- Worked rows of the primitives on two SmallIntegers: for each number some pairs of integers by which it succeeds, and one at each
-- bound where it fails.
use Rattle.std.proofs.Common.{◌≡◌, ℕ, List, [], ◌∷◌, ◌++◌, Option, Some, None, true, false, refl}
use Rattle.std.specs.Prelude.{map, ℤ, pos, neg_ℤ}
use Rattle.st_model.specs.declared.integers.IntAnswer.{IntAnswer}
use Rattle.st_model.specs.declared.integers.IntAnswer.TheVariants.{Number, Truth, Point}
use Rattle.st_model.specs.Integers.{within_range, exact_quotient, modulo, quotient_down, quotient, binary}

-- opens what they compute
unfoldable pub computed : Unit {0}
unfolding within_range exact_quotient modulo quotient_down quotient binary
computed = tt

abbrev minus : ℕ → ℤ
minus n = neg_ℤ (pos n)

-- the least and the greatest SmallInteger
abbrev least : ℤ
least = minus 16384

abbrev greatest : ℤ
greatest = pos 16383

-- a primitive of each of these pairs
abbrev answers : ℕ → List (ℤ × ℤ) → List (Option IntAnswer)
answers n pairs = map (λ p. binary n p.0 p.1) pairs

abbrev is : ℤ → Option IntAnswer
is z = Some (Number z)

abbrev yes : Option IntAnswer
yes = Some (Truth true)

abbrev no : Option IntAnswer
no = Some (Truth false)

sums : answers 1 ((pos 3, minus 5) ∷ (pos 16382, pos 1) ∷ (greatest, pos 1) ∷ (least, minus 1) ∷ []) ≡ is (minus 2) ∷ is greatest ∷ None ∷ None ∷ []
unfolding computed
sums = refl

differences : answers 2 ((pos 3, pos 5) ∷ (minus 16383, pos 1) ∷ (least, pos 1) ∷ (greatest, minus 1) ∷ []) ≡ is (minus 2) ∷ is least ∷ None ∷ None ∷ []
unfolding computed
differences = refl

-- 3 to 6: < > <= >=
abbrev below_same_above : List (ℤ × ℤ)
below_same_above = (least, pos 0) ∷ (pos 4, pos 4) ∷ (pos 4, minus 5) ∷ []

orders : (answers 3 below_same_above ≡ yes ∷ no ∷ no ∷ [])
    × (answers 4 below_same_above ≡ no ∷ no ∷ yes ∷ [])
    × (answers 5 below_same_above ≡ yes ∷ yes ∷ no ∷ [])
    × (answers 6 below_same_above ≡ no ∷ yes ∷ yes ∷ [])
unfolding computed
orders = (refl, refl, refl, refl)

-- 7 and 8: = ~=
abbrev same_or_other : List (ℤ × ℤ)
same_or_other = (minus 7, minus 7) ∷ (minus 7, pos 7) ∷ (pos 0, minus 1) ∷ []

equalities : (answers 7 same_or_other ≡ yes ∷ no ∷ no ∷ []) × (answers 8 same_or_other ≡ no ∷ yes ∷ yes ∷ [])
unfolding computed
equalities = (refl, refl)

products : answers 9 ((minus 7, pos 6) ∷ (pos 128, minus 128) ∷ (pos 128, pos 128) ∷ (pos 129, minus 128) ∷ (least, least) ∷ []) ≡ is (minus 42) ∷ is least ∷ None ∷ None ∷ None ∷ []
unfolding computed
products = refl

exact_quotients : answers 10 ((pos 42, minus 7) ∷ (pos 43, minus 7) ∷ (minus 43, pos 7) ∷ (pos 42, pos 0) ∷ (least, minus 1) ∷ []) ≡ is (minus 6) ∷ None ∷ None ∷ None ∷ None ∷ []
unfolding computed
exact_quotients = refl

-- 11 and 12 toward minus infinity: 7 by 2 is 3 and leaves 1, -7 by 2 is -4 and leaves 1, 7 by -2 is -4 and leaves -1, -7 by
-- -2 is 3 and leaves -1
modulos : answers 11 ((pos 7, pos 2) ∷ (minus 7, pos 2) ∷ (pos 7, minus 2) ∷ (minus 7, minus 2) ∷ (least, minus 1) ∷ (pos 7, pos 0) ∷ []) ≡ is (pos 1) ∷ is (pos 1) ∷ is (minus 1) ∷ is (minus 1) ∷ is (pos 0) ∷ None ∷ []
unfolding computed
modulos = refl

quotients_down : answers 12 ((pos 7, pos 2) ∷ (minus 7, pos 2) ∷ (pos 7, minus 2) ∷ (minus 7, minus 2) ∷ (least, minus 1) ∷ (pos 7, pos 0) ∷ []) ≡ is (pos 3) ∷ is (minus 4) ∷ is (minus 4) ∷ is (pos 3) ∷ None ∷ None ∷ []
unfolding computed
quotients_down = refl

-- 13 toward 0
quotients : answers 13 ((pos 7, pos 2) ∷ (minus 7, pos 2) ∷ (pos 7, minus 2) ∷ (minus 7, minus 2) ∷ (least, minus 1) ∷ (pos 7, pos 0) ∷ []) ≡ is (pos 3) ∷ is (minus 3) ∷ is (minus 3) ∷ is (pos 3) ∷ None ∷ None ∷ []
unfolding computed
quotients = refl

-- -8 has all bits but the lowest three
conjunctions : answers 14 ((minus 8, pos 13) ∷ (least, minus 1) ∷ (least, greatest) ∷ []) ≡ is (pos 8) ∷ is least ∷ is (pos 0) ∷ []
unfolding computed
conjunctions = refl

disjunctions : answers 15 ((minus 8, pos 13) ∷ (least, greatest) ∷ (least, pos 0) ∷ []) ≡ is (minus 3) ∷ is (minus 1) ∷ is least ∷ []
unfolding computed
disjunctions = refl

exclusive_disjunctions : answers 16 ((minus 8, pos 13) ∷ (least, minus 1) ∷ (greatest, minus 1) ∷ []) ≡ is (minus 11) ∷ is greatest ∷ is least ∷ []
unfolding computed
exclusive_disjunctions = refl

shifts_up : answers 17 ((pos 3, pos 2) ∷ (minus 1, pos 14) ∷ (pos 1, pos 14) ∷ (minus 1, pos 15) ∷ (pos 1, greatest) ∷ (pos 0, greatest) ∷ []) ≡ is (pos 12) ∷ is least ∷ None ∷ None ∷ None ∷ is (pos 0) ∷ []
unfolding computed
shifts_up = refl

-- toward minus infinity: -7 by -1 is -4
shifts_down : answers 17 ((minus 7, minus 1) ∷ (pos 7, minus 1) ∷ (minus 5, pos 0) ∷ (greatest, least) ∷ (minus 5, least) ∷ []) ≡ is (minus 4) ∷ is (pos 3) ∷ is (minus 5) ∷ is (pos 0) ∷ is (minus 1) ∷ []
unfolding computed
shifts_down = refl

points : answers 18 ((least, pos 4) ∷ []) ≡ Some (Point least (pos 4)) ∷ []
unfolding computed
points = refl

-- there is no other number
others : answers 0 ((pos 1, pos 1) ∷ []) ++ answers 19 ((pos 1, pos 1) ∷ []) ≡ None ∷ None ∷ []
unfolding computed
others = refl
