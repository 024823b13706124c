-- Which bytes are which, and where the front of a text looks for what they begin.
use Rattle.std.proofs.Common.{◌≡◌, ℕ, ◌≤◌, Bool, true, false, eqb, leb, ◌||◌, ◌&&◌, not, List, [], ◌∷◌, refl, ap, ◌∙◌, arith, inl, inr}
use Rattle.std.specs.Prelude.{codes}
use Rattle.std.specs.List.{list_all}
use Rattle.std.specs.Int.{is_in_range}
use Rattle.std.specs.Char.{is_ascii_digit, is_ascii_alphabetic, is_ascii_alphanumeric}
use Rattle.std.specs.Str.{byte}
use Rattle.std.proofs.lemmas.Bool.{leb-true, lt-leb, eqb-true, ne_eqb, and_parts, or_cases, not-true, both_ways, or_from, or_left}
use Rattle.st_scan.specs.Bytes.{is_blank, is_among, operator_bytes, begins_operator, mark_bytes, is_mark}
use Rattle.st_scan.specs.inside.Faults.{begins_piece}

pub in_range : (low high b : ℕ) → is_in_range low high b ≡ true → (low ≤ b) × (b ≤ high)
in_range low high b e =
    let parts = and_parts (leb low b) (leb b high) e in
    (leb-true low b parts.0, leb-true b high parts.1)

not_blank : (b : ℕ) → 33 ≤ b → is_blank b ≡ false
not_blank b le = rw (ne_eqb b 9 (λ s. omega arith), ne_eqb b 10 (λ s. omega arith), ne_eqb b 12 (λ s. omega arith), ne_eqb b 13 (λ s. omega arith), ne_eqb b 32 (λ s. omega arith)) refl

letter-high : (b : ℕ) → is_ascii_alphabetic b ≡ true → 65 ≤ b
letter-high b e = elim (or_cases (is_in_range 65 90 b) (is_in_range 97 122 b) e) [
  | inl u ↦ (in_range 65 90 b u).0
  | inr l ↦ let r = in_range 97 122 b l in omega arith
]

pub letter-no_equals : (b : ℕ) → is_ascii_alphabetic b ≡ true → eqb b (byte "=") ≡ false
letter-no_equals b e = let high = letter-high b e in ne_eqb b 61 (λ s. omega arith)

pub or_second : (x y : Bool) → y ≡ true → (x || y) ≡ true
or_second true y e = refl
or_second false y e = e

pub letter-alphanumeric : (b : ℕ) → is_ascii_alphabetic b ≡ true → is_ascii_alphanumeric b ≡ true
letter-alphanumeric b e = elim (or_cases (is_in_range 65 90 b) (is_in_range 97 122 b) e) [
  | inl u ↦ or_left (is_in_range 48 57 b || is_in_range 65 90 b) (is_in_range 97 122 b) (or_second (is_in_range 48 57 b) (is_in_range 65 90 b) u)
  | inr l ↦ or_second (is_in_range 48 57 b || is_in_range 65 90 b) (is_in_range 97 122 b) l
]

-- a byte that is no blank and no "
pub record Inked (b : ℕ) : Type 0 where
  pub blank : is_blank b ≡ false
  pub comment : eqb b (byte "\"") ≡ false

-- and no letter and no digit
pub record Sign (b : ℕ) : Type 0 where
  pub inked : Inked b
  pub letter : is_ascii_alphabetic b ≡ false
  pub digit : is_ascii_digit b ≡ false

pub letter-inked : (b : ℕ) → is_ascii_alphabetic b ≡ true → Inked b
letter-inked b e = let high = letter-high b e in record { blank = not_blank b (omega arith); comment = ne_eqb b 34 (λ s. omega arith) }

pub digit-inked : (b : ℕ) → is_ascii_digit b ≡ true → Inked b × (is_ascii_alphabetic b ≡ false)
digit-inked b e =
    let r = in_range 48 57 b e in
    (record { blank = not_blank b (omega arith); comment = ne_eqb b 34 (λ s. omega arith) }, rw (lt-leb 65 b (omega arith), lt-leb 97 b (omega arith)) refl)

-- what is tested of each of some bytes
among : (test : ℕ → Bool) (cs : List ℕ) (b : ℕ) → is_among cs b ≡ true → list_all test cs ≡ true → test b ≡ true
among test [] b e all = absurd cc
among test (c ∷ cs) b e all =
    let parts = and_parts (test c) (list_all test cs) all in
    elim (or_cases (eqb b c) (is_among cs b) e) [
      | inl same ↦ ap test (eqb-true b c same) ∙ parts.0
      | inr later ↦ among test cs b later parts.1
    ]

abbrev is_sign_byte : ℕ → Bool
is_sign_byte b = not (is_blank b) && not (eqb b (byte "\"")) && not (is_ascii_alphabetic b) && not (is_ascii_digit b)

sign_of : (b : ℕ) → is_sign_byte b ≡ true → Sign b
sign_of b e =
    let one = and_parts (not (is_blank b) && not (eqb b (byte "\"")) && not (is_ascii_alphabetic b)) (not (is_ascii_digit b)) e in
    let two = and_parts (not (is_blank b) && not (eqb b (byte "\""))) (not (is_ascii_alphabetic b)) one.0 in
    let three = and_parts (not (is_blank b)) (not (eqb b (byte "\""))) two.0 in
    record { inked = record { blank = not-true _ three.0; comment = not-true _ three.1 }; letter = not-true _ two.1; digit = not-true _ one.1 }

pub operator-sign : (b : ℕ) → begins_operator b ≡ true → Sign b
operator-sign b e = sign_of b (among is_sign_byte (byte "|" ∷ operator_bytes) b e refl)

pub mark-sign : (b : ℕ) → is_mark b ≡ true → Sign b × (eqb b (byte "-") ≡ false) × (begins_operator b ≡ false)
mark-sign b e = (
  sign_of b (among is_sign_byte mark_bytes b e refl),
  not-true _ (among (λ c. not (eqb c (byte "-"))) mark_bytes b e refl),
  not-true _ (among (λ c. not (begins_operator c)) mark_bytes b e refl),
)

-- a byte that begins nothing
pub record Nothing (b : ℕ) : Type 0 where
  pub sign : Sign b
  pub minus : eqb b (byte "-") ≡ false
  pub operator : begins_operator b ≡ false
  pub mark : is_mark b ≡ false
  pub character : eqb b (byte "$") ≡ false
  pub string : eqb b (byte "'") ≡ false
  pub hash : eqb b (byte "#") ≡ false

pub neither : (x y : Bool) → (x || y) ≡ false → (x ≡ false) × (y ≡ false)
neither true y e = absurd cc
neither false y e = (refl, e)

pub no_piece : (b : ℕ) → is_blank b ≡ false → eqb b (byte "\"") ≡ false → is_ascii_alphabetic b ≡ false → is_ascii_digit b ≡ false → begins_operator b ≡ false → is_mark b ≡ false
    → eqb b (byte "$") ≡ false → eqb b (byte "'") ≡ false → eqb b (byte "#") ≡ false → begins_piece b ≡ false
no_piece b no_blank no_comment no_letter no_digit no_operator no_mark no_character no_string no_hash =
    let letters = neither (is_in_range 65 90 b) (is_in_range 97 122 b) no_letter in
    let alphanumeric = or_from (is_in_range 48 57 b || is_in_range 65 90 b) (is_in_range 97 122 b) (or_from (is_in_range 48 57 b) (is_in_range 65 90 b) no_digit letters.0) letters.1 in
    let one = or_from (is_blank b) (is_ascii_alphanumeric b) no_blank alphanumeric in
    let two = or_from (is_blank b || is_ascii_alphanumeric b) (begins_operator b) one no_operator in
    let three = or_from (is_blank b || is_ascii_alphanumeric b || begins_operator b) (is_mark b) two no_mark in
    or_from (is_blank b || is_ascii_alphanumeric b || begins_operator b || is_mark b) (is_among (codes "\"'$#") b) three (rw (no_comment, no_string, no_character, no_hash) refl)

-- a byte that is not among some is none of them
none_of : (c b : ℕ) (cs : List ℕ) → is_among cs b ≡ false → is_among cs c ≡ true → eqb b c ≡ false
none_of c b cs e f = ne_eqb b c (λ same. both_ways (is_among cs b) e (ap (is_among cs) same ∙ f))

pub nothing_of : (b : ℕ) → begins_piece b ≡ false → Nothing b
nothing_of b e =
    let rest = codes "\"'$#" in
    let one = neither (is_blank b || is_ascii_alphanumeric b || begins_operator b || is_mark b) (is_among rest b) e in
    let two = neither (is_blank b || is_ascii_alphanumeric b || begins_operator b) (is_mark b) one.0 in
    let three = neither (is_blank b || is_ascii_alphanumeric b) (begins_operator b) two.0 in
    let four = neither (is_blank b) (is_ascii_alphanumeric b) three.0 in
    let letters = neither (is_in_range 48 57 b || is_in_range 65 90 b) (is_in_range 97 122 b) four.1 in
    let digits = neither (is_in_range 48 57 b) (is_in_range 65 90 b) letters.0 in
    record {
      sign = record {
        inked = record { blank = four.0; comment = none_of (byte "\"") b rest one.1 refl };
        letter = rw (digits.1, letters.1) refl;
        digit = digits.0;
      };
      minus = none_of (byte "-") b (byte "|" ∷ operator_bytes) three.1 refl;
      operator = three.1;
      mark = two.1;
      character = none_of (byte "$") b rest one.1 refl;
      string = none_of (byte "'") b rest one.1 refl;
      hash = none_of (byte "#") b rest one.1 refl;
    }
