-- The method's own variables are called apart from each other and from the names of the class.
use Rattle.std.proofs.Common.{◌≡◌, ◌<◌, ◌≤◌, ℕ, zero, suc, ◌+◌, ◌-◌, Bool, true, false, ◌&&◌, ◌||◌, List, [], ◌∷◌, length, get_or, drop, refl, sym, ap, ap₂, ◌∙◌, subst, arith}
use Rattle.std.proofs.lemmas.Bool.{ltb-true, ltb-false}
use Rattle.std.proofs.lemmas.Bool.Decides.{nat_tests}
use Rattle.std.proofs.lemmas.Fmt.{decimal_is_IsNumeral, decimal_injective, first_decimal}
use Rattle.std.proofs.lemmas.Slice.Eq.{bytes_eq-Decides}
use Rattle.std.proofs.lemmas.Str.Parse.{digit_from_value}
use Rattle.std.specs.Char.{is_ascii_digit, is_ascii_alphanumeric}
use Rattle.std.specs.Fmt.{decimal}
use Rattle.std.specs.List.{list_all}
use Rattle.std.specs.Prelude.{if◌then◌else◌, nat_lt, bytes_eq}
use Rattle.std.specs.Str.Parse.{AllDigits}
use Rattle.st_expression_stack.specs.Names.{zeros, numeral, numbered, first_free, own_number, own_name, is_among}

-- NUMERALS

pub record IsDigits (ds : List ℕ) : Type 0 where
  pub first : ℕ
  pub others : List ℕ
  pub is : ds ≡ first ∷ others
  pub digit : is_ascii_digit first ≡ true
  pub all : list_all is_ascii_alphanumeric ds ≡ true

digit_is : (c : ℕ) → (48 ≤ c) × (c ≤ 57) → is_ascii_digit c ≡ true
digit_is c r = grind (arith, nat_tests, r.0, r.1)

digit_alphanumeric : (c : ℕ) → is_ascii_digit c ≡ true → is_ascii_alphanumeric c ≡ true
digit_alphanumeric c e = rw e refl

digits_alphanumeric : (ds : List ℕ) → AllDigits 10 ds → list_all is_ascii_alphanumeric ds ≡ true
digits_alphanumeric [] h = refl
digits_alphanumeric (c ∷ cs) h =
    ap₂ (λ (a b : Bool). a && b) (digit_alphanumeric c (digit_is c (digit_from_value c h.0))) (digits_alphanumeric cs h.1)

digits_of : (ds : List ℕ) → 0 < length ds → AllDigits 10 ds → IsDigits ds
digits_of [] l h = absurd (omega (arith, l))
digits_of (c ∷ cs) l h =
    let r = digit_from_value c h.0 in
    record {
      first = c;
      others = cs;
      is = refl;
      digit = digit_is c r;
      all = digits_alphanumeric (c ∷ cs) h;
    }

zeros_alphanumeric : (n : ℕ) → list_all is_ascii_alphanumeric (zeros n) ≡ true
zeros_alphanumeric zero = refl
zeros_alphanumeric (suc n) = zeros_alphanumeric n

zeros_digits : (n : ℕ) → IsDigits (zeros n)
zeros_digits zero = record { first = 48; others = []; is = refl; digit = refl; all = refl }
zeros_digits (suc n) = record { first = 48; others = zeros n; is = refl; digit = refl; all = zeros_alphanumeric (suc n) }

pub numeral_digits : (k : ℕ) → IsDigits (numeral k)
numeral_digits k = by_test (nat_lt k 18446744073709551615) refl
  where
    by_test : (b : Bool) → nat_lt k 18446744073709551615 ≡ b → IsDigits (if b then decimal (k + 1) else zeros k)
    by_test true e =
        let low = ltb-true k 18446744073709551615 e in
        let d = decimal_is_IsNumeral (k + 1) (omega (arith, low)) in
        digits_of (decimal (k + 1)) d.0.0 d.0.1
    by_test false e = zeros_digits k

zeros_length : (n : ℕ) → length (zeros n) ≡ n + 1
zeros_length zero = refl
zeros_length (suc n) = omega (arith, zeros_length n)

zeros_first : (n : ℕ) → get_or (zeros n) 0 0 ≡ 48
zeros_first zero = refl
zeros_first (suc n) = refl

numeral_injective : (j k : ℕ) → numeral j ≡ numeral k → j ≡ k
numeral_injective j k e = by_tests (nat_lt j 18446744073709551615) (nat_lt k 18446744073709551615) refl refl e
  where
    by_tests : (a b : Bool) → nat_lt j 18446744073709551615 ≡ a → nat_lt k 18446744073709551615 ≡ b
        → (if a then decimal (j + 1) else zeros j) ≡ (if b then decimal (k + 1) else zeros k) → j ≡ k
    by_tests true true x y h =
        let low = ltb-true j 18446744073709551615 x in
        let high = ltb-true k 18446744073709551615 y in
        let same = decimal_injective (j + 1) (k + 1) (omega (arith, low)) (omega (arith, high)) h in
        omega (arith, same)
    by_tests true false x y h =
        let low = ltb-true j 18446744073709551615 x in
        let first = first_decimal (j + 1) (omega arith) (omega (arith, low)) in
        let zero_first = ap (λ (l : List ℕ). get_or l 0 0) h ∙ zeros_first k in
        absurd (omega (arith, first, zero_first))
    by_tests false true x y h =
        let high = ltb-true k 18446744073709551615 y in
        let first = first_decimal (k + 1) (omega arith) (omega (arith, high)) in
        let zero_first = ap (λ (l : List ℕ). get_or l 0 0) (sym h) ∙ zeros_first j in
        absurd (omega (arith, first, zero_first))
    by_tests false false x y h = let same = ap (λ (l : List ℕ). length l) h in omega (arith, same, zeros_length j, zeros_length k)

pub numbered_injective : (j k : ℕ) → numbered j ≡ numbered k → j ≡ k
numbered_injective j k e = numeral_injective j k (ap (drop 1) e)

numbered_apart : (j k : ℕ) → j < k → bytes_eq (numbered j) (numbered k) ≡ false
numbered_apart j k l = by (bytes_eq (numbered j) (numbered k)) refl
  where
    by : (b : Bool) → bytes_eq (numbered j) (numbered k) ≡ b → b ≡ false
    by false e = refl
    by true e = let same = numbered_injective j k ((bytes_eq-Decides (numbered j) (numbered k)).0 e) in absurd (omega (arith, same, l))

-- THE FIRST FREE ONE

module _ (is_taken : List ℕ → Bool) where
  pub first_from : (tries n : ℕ) → n ≤ first_free is_taken tries n
  first_from zero n = omega arith
  first_from (suc tries) n = by (is_taken (numbered n)) (first_from tries (n + 1))
    where
      by : (b : Bool) → n + 1 ≤ first_free is_taken tries (n + 1) → n ≤ (if b then first_free is_taken tries (n + 1) else n)
      by true l = omega (arith, l)
      by false l = omega arith

  -- with whatever tries, if it is free
  same_first : (a b n : ℕ) → is_taken (numbered (first_free is_taken a n)) ≡ false → is_taken (numbered (first_free is_taken b n)) ≡ false → first_free is_taken a n ≡ first_free is_taken b n
  same_first zero zero n e f = refl
  same_first zero (suc b) n e f = sym (ap (λ (t : Bool). if t then first_free is_taken b (n + 1) else n) e)
  same_first (suc a) zero n e f = ap (λ (t : Bool). if t then first_free is_taken a (n + 1) else n) f
  same_first (suc a) (suc b) n e f = by (is_taken (numbered n)) e f (λ x y. same_first a b (n + 1) x y)
    where
      by : (t : Bool) → is_taken (numbered (if t then first_free is_taken a (n + 1) else n)) ≡ false → is_taken (numbered (if t then first_free is_taken b (n + 1) else n)) ≡ false
          → (is_taken (numbered (first_free is_taken a (n + 1))) ≡ false → is_taken (numbered (first_free is_taken b (n + 1))) ≡ false → first_free is_taken a (n + 1) ≡ first_free is_taken b (n + 1))
          → (if t then first_free is_taken a (n + 1) else n) ≡ (if t then first_free is_taken b (n + 1) else n)
      by true e f later = later e f
      by false e f later = refl

  -- the numbers ascend
  own_above : (count j k : ℕ) → j < k → own_number is_taken count j < own_number is_taken count k
  own_above count j zero l = absurd (omega (arith, l))
  own_above count j (suc k) l = by (nat_lt j k) refl (λ h. own_above count j k h)
    where
      next : own_number is_taken count k + 1 ≤ own_number is_taken count (suc k)
      next = first_from count (own_number is_taken count k + 1)

      by : (b : Bool) → nat_lt j k ≡ b → (j < k → own_number is_taken count j < own_number is_taken count k) → own_number is_taken count j < own_number is_taken count (suc k)
      by true e before = let less = before (ltb-true j k e) in omega (arith, less, next)
      by false e before =
          let above = ltb-false j k e in
          let same : j ≡ k = omega (arith, l, above) in
          let one = ap (own_number is_taken count) same in
          omega (arith, one, next)

  pub own_apart : (count j k : ℕ) → own_name is_taken count j ≡ own_name is_taken count k → j ≡ k
  own_apart count j k e = by (nat_lt j k) (nat_lt k j) refl refl
    where
      same : own_number is_taken count j ≡ own_number is_taken count k
      same = numbered_injective (own_number is_taken count j) (own_number is_taken count k) e

      by : (a b : Bool) → nat_lt j k ≡ a → nat_lt k j ≡ b → j ≡ k
      by true b x y = let less = own_above count j k (ltb-true j k x) in absurd (omega (arith, same, less))
      by false true x y = let less = own_above count k j (ltb-true k j y) in absurd (omega (arith, same, less))
      by false false x y = let one = ltb-false j k x in let two = ltb-false k j y in omega (arith, one, two)

-- WITHOUT A TEXT

abbrev without : List ℕ → List (List ℕ) → List (List ℕ)
without t [] = []
without t (x ∷ xs) = if bytes_eq x t then without t xs else x ∷ without t xs

without_most : (t : List ℕ) (xs : List (List ℕ)) → length (without t xs) ≤ length xs
without_most t [] = omega arith
without_most t (x ∷ xs) = by (bytes_eq x t) (without_most t xs)
  where
    by : (b : Bool) → length (without t xs) ≤ length xs → length (if b then without t xs else x ∷ without t xs) ≤ suc (length xs)
    by true l = omega (arith, l)
    by false l = omega (arith, l)

without_less : (t : List ℕ) (xs : List (List ℕ)) → is_among xs t ≡ true → length (without t xs) < length xs
without_less t [] e = absurd cc
without_less t (x ∷ xs) e = by (bytes_eq x t) e (without_most t xs) (λ h. without_less t xs h)
  where
    by : (b : Bool) → (b || is_among xs t) ≡ true → length (without t xs) ≤ length xs → (is_among xs t ≡ true → length (without t xs) < length xs)
        → length (if b then without t xs else x ∷ without t xs) < suc (length xs)
    by true e l h = omega (arith, l)
    by false e l h = let less = h e in omega (arith, less)

without_other : (t s : List ℕ) → bytes_eq t s ≡ false → (xs : List (List ℕ)) → is_among (without t xs) s ≡ is_among xs s
without_other t s n [] = refl
without_other t s n (x ∷ xs) = by (bytes_eq x t) refl (without_other t s n xs)
  where
    by : (b : Bool) → bytes_eq x t ≡ b → is_among (without t xs) s ≡ is_among xs s → is_among (if b then without t xs else x ∷ without t xs) s ≡ (bytes_eq x s || is_among xs s)
    by true e h =
        let other : bytes_eq x s ≡ false = ap (λ (y : List ℕ). bytes_eq y s) ((bytes_eq-Decides x t).0 e) ∙ n in
        h ∙ sym (ap (λ (c : Bool). c || is_among xs s) other)
    by false e h = ap (λ (c : Bool). bytes_eq x s || c) h

-- from a number on, by tests that agree there
first_alike : (f g : List ℕ → Bool) (tries n : ℕ) → ((m : ℕ) → n ≤ m → f (numbered m) ≡ g (numbered m)) → first_free f tries n ≡ first_free g tries n
first_alike f g zero n h = refl
first_alike f g (suc tries) n h =
    ap₂ (λ (b : Bool) (m : ℕ). if b then m else n) (h n (omega arith)) (first_alike f g tries (n + 1) (λ m l. h m (omega (arith, l))))

-- the first of so many numbers is taken, and what is left of the texts leaves one of the others free
module _ (tries : ℕ) (texts : List (List ℕ)) (l : length texts ≤ suc tries) (n : ℕ) (e : is_among texts (numbered n) ≡ true) where
  rest : List (List ℕ)
  rest = without (numbered n) texts

  fewer : length rest ≤ tries
  unfolding rest
  fewer = let less = without_less (numbered n) texts e in omega (arith, less, l)

  other : (m : ℕ) → n + 1 ≤ m → is_among rest (numbered m) ≡ is_among texts (numbered m)
  unfolding rest
  other m k = without_other (numbered n) (numbered m) (numbered_apart n m (omega (arith, k))) texts

  later : is_among rest (numbered (first_free (is_among rest) tries (n + 1))) ≡ false → is_among texts (numbered (first_free (is_among texts) tries (n + 1))) ≡ false
  later free =
      sym (other (first_free (is_among texts) tries (n + 1)) (first_from (is_among texts) tries (n + 1)))
      ∙ ap (λ (m : ℕ). is_among rest (numbered m)) (sym (first_alike (is_among rest) (is_among texts) tries (n + 1) other))
      ∙ free

-- among one more than the texts one is free
pub is_free : (tries : ℕ) (texts : List (List ℕ)) → length texts ≤ tries → (n : ℕ) → is_among texts (numbered (first_free (is_among texts) tries n)) ≡ false
is_free zero [] l n = refl
is_free zero (x ∷ xs) l n = absurd (omega (arith, l))
is_free (suc tries) texts l n = by (is_among texts (numbered n)) refl (λ others k m. is_free tries others k m)
  where
    by : (b : Bool) → is_among texts (numbered n) ≡ b → ((others : List (List ℕ)) → length others ≤ tries → (m : ℕ) → is_among others (numbered (first_free (is_among others) tries m)) ≡ false)
        → is_among texts (numbered (if b then first_free (is_among texts) tries (n + 1) else n)) ≡ false
    by true e free = later tries texts l n e (free (rest tries texts l n e) (fewer tries texts l n e) (n + 1))
    by false e free = e

-- THE OWN ONES

pub own_free : (texts : List (List ℕ)) (k : ℕ) → is_among texts (own_name (is_among texts) (length texts) k) ≡ false
own_free texts zero = is_free (length texts) texts (omega arith) 0
own_free texts (suc k) = is_free (length texts) texts (omega arith) (own_number (is_among texts) (length texts) k + 1)

-- the same texts, in whatever order and number
module _ (xs ys : List (List ℕ)) (alike : (t : List ℕ) → is_among xs t ≡ is_among ys t) where
  free_too : (n : ℕ) → is_among ys (numbered (first_free (is_among ys) (length xs) n)) ≡ false
  free_too n = subst (λ (f : List ℕ → Bool). f (numbered (first_free f (length xs) n)) ≡ false) (λ i t. alike t i) (is_free (length xs) xs (omega arith) n)

  firsts : (n : ℕ) → first_free (is_among xs) (length xs) n ≡ first_free (is_among ys) (length ys) n
  firsts n =
      ap (λ (f : List ℕ → Bool). first_free f (length xs) n) (λ i t. alike t i)
      ∙ same_first (is_among ys) (length xs) (length ys) n (free_too n) (is_free (length ys) ys (omega arith) n)

  numbers : (k : ℕ) → own_number (is_among xs) (length xs) k ≡ own_number (is_among ys) (length ys) k
  numbers zero = firsts 0
  numbers (suc k) = firsts (own_number (is_among xs) (length xs) k + 1) ∙ ap (λ (m : ℕ). first_free (is_among ys) (length ys) (m + 1)) (numbers k)

  pub own_alike : own_name (is_among xs) (length xs) ≡ own_name (is_among ys) (length ys)
  own_alike = λ i k. numbered (numbers k i)
