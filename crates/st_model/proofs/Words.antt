-- Words and their values.
use Rattle.std.proofs.Common.{◌≡◌, ◌<◌, ◌≤◌, ℕ, Bool, true, false, refl, sym, ap, ◌∙◌, ◌*◌, ◌++◌, ◌%◌, arith}
use Rattle.std.proofs.lemmas.Bool.Decides.{nat_tests}
use Rattle.std.specs.Prelude.{if◌then◌else◌, ◌==◌, ◌/◌, ◌-◌, nat_lt, pos, negsuc, codes}
use Rattle.std.specs.Fmt.{decimal, signed_decimal}
use Rattle.st_model.specs.Text.{value_text}
use Rattle.st_model.specs.Values.{Value, Small, Ref, value_of, is_small, integer, integer_of}
use Rattle.st_model.specs.Objects.{place_of, NilObject, FalseObject, TrueObject, SchedulerAssociation}
use Rattle.st_model.specs.Formed.{literals_of}
use Rattle.st_model.specs.Steps.{same_value}

is_small_if : (b : Bool) (n : ℕ) → is_small (if b then Small n else Ref n) ≡ b
is_small_if true n = refl
is_small_if false n = refl

pub is_small-value_of : (w : ℕ) → is_small (value_of w) ≡ (w % 2 == 1)
unfolding value_of
is_small-value_of w = is_small_if (w % 2 == 1) (w / 2)

literals_if : (b : Bool) (n : ℕ) → literals_of (if b then Small n else Ref n) ≡ n % 64
literals_if true n = refl
literals_if false n = refl

pub literals_of-value_of : (w : ℕ) → literals_of (value_of w) ≡ w / 2 % 64
unfolding value_of
literals_of-value_of w = literals_if (w % 2 == 1) (w / 2)

pub ruleset words = (is_small-value_of, literals_of-value_of)

small_integer : (b : Bool) (n : ℕ) → is_small (if b then Small n else Ref n) ≡ true → integer_of (if b then Small n else Ref n) ≡ integer n
small_integer true n e = refl
small_integer false n e = cc

pub integer_of-value_of : (w : ℕ) → is_small (value_of w) ≡ true → integer_of (value_of w) ≡ integer (w / 2)
unfolding value_of
integer_of-value_of w e = small_integer (w % 2 == 1) (w / 2) e

pub integer-low : (n : ℕ) → n < 16384 → integer n ≡ pos n
integer-low n l = let b : nat_lt n 16384 ≡ true = grind (arith, nat_tests) in rw b refl

pub integer-high : (n : ℕ) → 16384 ≤ n → integer n ≡ negsuc (32767 - n)
integer-high n l = let b : nat_lt n 16384 ≡ false = grind (arith, nat_tests) in rw b refl

pub ruleset word_integers = (integer_of-value_of, integer-low, integer-high)

pub ruleset integers = (integer_of-value_of, integer-low, integer-high)

-- the words of the page's pointers
pub value_of-nil : value_of 2 ≡ Ref (place_of NilObject)
unfolding value_of
value_of-nil = refl

pub value_of-false : value_of 4 ≡ Ref (place_of FalseObject)
unfolding value_of
value_of-false = refl

pub value_of-true : value_of 6 ≡ Ref (place_of TrueObject)
unfolding value_of
value_of-true = refl

pub value_of-scheduler : value_of 8 ≡ Ref (place_of SchedulerAssociation)
unfolding value_of
value_of-scheduler = refl

pub ruleset pages = (value_of-nil, value_of-false, value_of-true, value_of-scheduler)

text_if : (b : Bool) (n m : ℕ) → b ≡ false → value_text (if b then Small n else Ref m) ≡ codes "@" ++ decimal (2 * m)
text_if true n m e = cc
text_if false n m e = refl

small_of : (b : Bool) (n m : ℕ) → is_small (if b then Small n else Ref m) ≡ b
small_of true n m = refl
small_of false n m = refl

pub value_text-pointer : (w : ℕ) → is_small (value_of w) ≡ false → value_text (value_of w) ≡ codes "@" ++ decimal w
unfolding value_of
value_text-pointer w e =
    let b : (w % 2 == 1) ≡ false = sym (small_of (w % 2 == 1) (w / 2) (w / 2)) ∙ e in
    let even : 2 * (w / 2) ≡ w = grind (arith, nat_tests) in
    text_if (w % 2 == 1) (w / 2) (w / 2) b ∙ ap (λ n. codes "@" ++ decimal n) even

text_small : (v : Value) → is_small v ≡ true → value_text v ≡ signed_decimal (integer_of v)
text_small (Small n) e = refl
text_small (Ref n) e = cc

pub value_text-small : (w : ℕ) → is_small (value_of w) ≡ true → value_text (value_of w) ≡ signed_decimal (integer_of (value_of w))
value_text-small w e = text_small (value_of w) e

pub ruleset texts = (value_text-pointer, value_text-small)

same_if : (a b : ℕ) (p q : Bool) → (a % 2 == 1) ≡ p → (b % 2 == 1) ≡ q
    → (a == b) ≡ same_value (if p then Small (a / 2) else Ref (a / 2)) (if q then Small (b / 2) else Ref (b / 2))
same_if a b true true e f = grind (arith, nat_tests)
same_if a b true false e f = grind (arith, nat_tests)
same_if a b false true e f = grind (arith, nat_tests)
same_if a b false false e f = grind (arith, nat_tests)

pub same_words : (a b : ℕ) → (a == b) ≡ same_value (value_of a) (value_of b)
unfolding value_of
same_words a b = same_if a b (a % 2 == 1) (b % 2 == 1) refl refl
