-- The size of digits, digit by digit.
use Rattle.std.proofs.Common.{◌≡◌, ℕ, ◌+◌, ◌*◌, ◌<◌, ◌≤◌, false, ltb, leb, ◌&&◌, List, [], ◌∷◌, length, get_or, drop, add-one, drop-cons, length-drop, Option, Some, None, refl, sym, ap, ◌∙◌, arith, inl, inr}
use Rattle.std.specs.Prelude.{option_and_then, if◌then◌else◌}
use Rattle.std.specs.List.{list_all}
use Rattle.std.specs.Char.{digit_value}
use Rattle.std.specs.Str.Parse.{digits_value_after}
use Rattle.std.proofs.lemmas.Bool.{leb-true, leb-false, le-leb, lt-leb, cases_Bool, and_right}
use Rattle.std.proofs.lemmas.List.{nil_from_length}
use Rattle.std.proofs.Math.Nat.{mul-le-mul_left}
use Rattle.st_scan.specs.Pieces.{greatest}
use Rattle.st_scan.specs.inside.Numerals.{with_digit, size_in}

-- more digits make no size less
digits_grow : (base n : ℕ) (ds : List ℕ) → 1 ≤ base → n ≤ digits_value_after base n ds
digits_grow base n [] one = omega arith
digits_grow base n (d ∷ ds) one =
    let more = digits_grow base (n * base + digit_value d) ds one in
    let times : n ≤ n * base = omega (arith, mul-le-mul_left n one) in
    omega arith

-- the size with more digits behind it, one after the other
unfoldable pub with_digits : ℕ → ℕ → List ℕ → Option ℕ
with_digits n base [] = Some n
with_digits n base (d ∷ ds) = option_and_then (λ m. with_digits m base ds) (with_digit n base d)

abbrev size_behind : ℕ → ℕ → List ℕ → Option ℕ
size_behind n base ds = if list_all (λ d. ltb (digit_value d) base) ds && leb (digits_value_after base n ds) greatest then Some (digits_value_after base n ds) else None

-- that is the same as all at once
size-at_once : (base n : ℕ) (ds : List ℕ) → 1 ≤ base → n ≤ greatest → with_digits n base ds ≡ size_behind n base ds
unfolding with_digits
size-at_once base n [] one small = rw (le-leb n greatest small) refl
size-at_once base n (d ∷ ds) one small =
    let m = n * base + digit_value d in
    elim (cases_Bool (ltb (digit_value d) base)) [
      | inr high ↦ rw high refl
      | inl low ↦ elim (cases_Bool (leb m greatest)) [
        | inl fits ↦ rw (low, fits) (size-at_once base m ds one (leb-true m greatest fits))
        | inr large ↦
            let more : leb (digits_value_after base m ds) greatest ≡ false = lt-leb _ _ (omega (arith, leb-false m greatest large, digits_grow base m ds one)) in
            rw (low, large, more, and_right (list_all (λ c. ltb (digit_value c) base) ds) false refl) refl
      ]
    ]

pub with_digits-0 : (base : ℕ) (ds : List ℕ) → 2 ≤ base → with_digits 0 base ds ≡ size_in base ds
with_digits-0 base ds two = size-at_once base 0 ds (omega arith) (omega arith)

-- one turn of the loop over digits
pub with_digits-turn : (base n i : ℕ) (ds : List ℕ) (r : Option ℕ) → i < length ds → r ≡ with_digit n base (get_or ds i 0) → with_digits n base (drop i ds) ≡ option_and_then (λ m. with_digits m base (drop (i + 1) ds)) r
unfolding with_digits
with_digits-turn base n i ds r lt e =
    let first : drop i ds ≡ get_or ds i 0 ∷ drop (i + 1) ds = rw (add-one, drop-cons ds i 0) refl in
    ap (with_digits n base) first ∙ ap (option_and_then (λ m. with_digits m base (drop (i + 1) ds))) (sym e)

pub with_digits-end : (base n i : ℕ) (ds : List ℕ) → length ds ≤ i → with_digits n base (drop i ds) ≡ Some n
unfolding with_digits
with_digits-end base n i ds le = ap (with_digits n base) (nil_from_length (drop i ds) (omega (arith, length-drop i ds)))
