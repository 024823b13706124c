-- The digits of a number, one after the other.
use Rattle.std.proofs.Common.{◌≡◌, ℕ, ◌+◌, ◌*◌, ◌-◌, ◌<◌, ◌≤◌, zero, suc, Bool, true, false, List, [], ◌∷◌, length, drop, get_or, refl, sym, ap, ◌∙◌, arith}
use Rattle.std.specs.Prelude.{Option, None, nat_le, ◌&&◌, if◌then◌else◌}
use Rattle.std.proofs.lemmas.Bool.Decides.{nat_tests}
use Rattle.st_chunk.specs.Lines.{digits_after, at_most, number}

-- what passes the limit gives none, whatever digits follow
pub too_many : (limit : ℕ) (ds : List ℕ) (n : ℕ) → limit < n → at_most limit (digits_after n ds) ≡ None
too_many limit [] n l =
    let b : nat_le n limit ≡ false = grind (arith, nat_tests) in
    rw b refl
too_many limit (b ∷ bs) n l = too_case limit (nat_le 48 b && nat_le b 57) b bs n l (too_many limit bs)
  where
    too_case : (limit : ℕ) (c : Bool) (b : ℕ) (bs : List ℕ) (n : ℕ) → limit < n → ((m : ℕ) → limit < m → at_most limit (digits_after m bs) ≡ None)
        → at_most limit (if c then digits_after (10 * n + (b - 48)) bs else None) ≡ None
    too_case limit true b bs n l more = more (10 * n + (b - 48)) (omega (arith, l))
    too_case limit false b bs n l more = refl

at : (i : ℕ) → i + 1 ≡ suc i
at i = omega arith

digit_case : (c : Bool) (b : ℕ) (bs : List ℕ) (n : ℕ) → c ≡ true → (if c then digits_after (10 * n + (b - 48)) bs else None) ≡ digits_after (10 * n + (b - 48)) bs
digit_case true b bs n e = refl
digit_case false b bs n e = cc

other_case : (c : Bool) (b : ℕ) (bs : List ℕ) (n : ℕ) → c ≡ false → (if c then digits_after (10 * n + (b - 48)) bs else None) ≡ None
other_case true b bs n e = cc
other_case false b bs n e = refl

next_of : (w : List ℕ) (i d : ℕ) → i < length w → drop i w ≡ get_or w i d ∷ drop (suc i) w
next_of [] i d l = absurd (omega (arith, l))
next_of (b ∷ bs) zero d l = refl
next_of (b ∷ bs) (suc i) d l = next_of bs i d (omega (arith, l))

-- a digit goes on to the next number
pub digits_next : (w : List ℕ) (i n d : ℕ) → i < length w → 48 ≤ get_or w i d → get_or w i d ≤ 57
    → digits_after n (drop i w) ≡ digits_after (10 * n + (get_or w i d - 48)) (drop (i + 1) w)
digits_next w i n d l low high =
    let b = get_or w i d in
    let digit : (nat_le 48 b && nat_le b 57) ≡ true = grind (arith, nat_tests) in
    ap (λ ds. digits_after n ds) (next_of w i d l) ∙ (digit_case (nat_le 48 b && nat_le b 57) b (drop (suc i) w) n digit
    ∙ ap (λ j. digits_after (10 * n + (b - 48)) (drop j w)) (sym (at i)))

-- what is no digit gives none
pub digits_stop : (w : List ℕ) (i n d : ℕ) → i < length w → (nat_le 48 (get_or w i d) && nat_le (get_or w i d) 57) ≡ false
    → digits_after n (drop i w) ≡ None
digits_stop w i n d l other =
    ap (λ ds. digits_after n ds) (next_of w i d l) ∙ other_case (nat_le 48 (get_or w i d) && nat_le (get_or w i d) 57) (get_or w i d) (drop (suc i) w) n other

none_over : (limit : ℕ) (c : Bool) (x : Option ℕ) → at_most limit x ≡ None → None ≡ (if c then at_most limit x else None)
none_over limit true x e = sym e
none_over limit false x e = refl

-- a number that passes the limit before its end is none
pub digits_over : (limit : ℕ) (w : List ℕ) (i n d : ℕ) → i < length w → 48 ≤ get_or w i d → get_or w i d ≤ 57 → digits_after 0 w ≡ digits_after n (drop i w)
    → limit < 10 * n + (get_or w i d - 48) → None ≡ number limit w
unfolding number
digits_over limit w i n d l low high so_far over =
    none_over limit (nat_le 1 (length w) && nat_le (length w) 10) (digits_after 0 w)
    (ap (at_most limit) (so_far ∙ digits_next w i n d l low high) ∙ too_many limit (drop (i + 1) w) (10 * n + (get_or w i d - 48)) over)

pub ruleset digits = (digits_next, digits_stop, digits_over)
