-- A refusal of the roots file is determined, and what a store opens as.
use Rattle.std.proofs.Common.{◌≡◌, ℕ, ◌^◌, ◌<◌, ◌≤◌, List, length, sym, ap, ◌∙◌, subst, arith, inl, inr, ◌⊎◌, ⊎_elim, true≢false}
use Rattle.std.specs.Prelude.{Option, Some, None, IsSome}
use Rattle.std.proofs.lemmas.Bool.{cases_lt}
use Rattle.st_host.specs.Files.{Files, bytes_of}
use Rattle.st_store.specs.Names.{roots_file, changes_file, image_file}
use Rattle.st_store.specs.Roots.{place, root_at, HasLetters, Chooses}
use Rattle.st_store.specs.Refusals.{IsWrongLetter, IsWrongFront, IsWrongRoots, IsWrongNumber, NamesTooMuch}
use Rattle.st_store.specs.Stored.{Stored, Opens, stored_in}
use Rattle.st_store.specs.declared.root.Root.{Root}

letter_wrong : (file : List ℕ) (at : ℕ) → IsWrongLetter file at → HasLetters file → ⊥
letter_wrong file at x letters = x.wrong (letters at x.below)

one_letter : (file : List ℕ) (at other : ℕ) → IsWrongLetter file at → IsWrongLetter file other → at ≡ other
one_letter file at other x y = ⊎_elim
    (λ less. absurd (x.wrong (y.right at less)))
    (λ least. ⊎_elim (λ less. absurd (y.wrong (x.right other less))) (λ most. omega arith) (cases_lt other at))
    (cases_lt at other)

-- where the file is whole, and the root that it chooses has a slot
module _ (file : List ℕ) (k : ℕ) (root : Root) (chosen : Chooses k root (Some file)) (slot : root.slot ≤ 3) where
  front_right : (at : ℕ) → IsWrongFront file at → ⊥
  front_right at (inl x) = letter_wrong file at x chosen.whole.letters
  front_right at (inr (inl x)) = absurd (omega (arith, x.1, chosen.whole.long))
  front_right at (inr (inr x)) =
      let is = ap (λ n. (root_at n file).slot) (x.1 ∙ ap place chosen.gate) ∙ ap (λ (r : Root). r.slot) chosen.names in
      absurd (omega (arith, x.2, is, slot))

one_front : (file : List ℕ) (at other : ℕ) → IsWrongFront file at → IsWrongFront file other → at ≡ other
one_front file at other (inl x) (inl y) = one_letter file at other x y
one_front file at other (inl x) (inr (inl y)) = absurd (letter_wrong file at x y.0)
one_front file at other (inl x) (inr (inr y)) = absurd (letter_wrong file at x y.0.letters)
one_front file at other (inr (inl x)) (inl y) = absurd (letter_wrong file other y x.0)
one_front file at other (inr (inl x)) (inr (inl y)) = x.2 ∙ sym y.2
one_front file at other (inr (inl x)) (inr (inr y)) = absurd (omega (arith, x.1, y.0.long))
one_front file at other (inr (inr x)) (inl y) = absurd (letter_wrong file other y x.0.letters)
one_front file at other (inr (inr x)) (inr (inl y)) = absurd (omega (arith, y.1, x.0.long))
one_front file at other (inr (inr x)) (inr (inr y)) = x.1 ∙ sym y.1

above_length : (root : Root) (changes : ℕ) → root.length ≤ changes → root.length ≤ 2 ^ 30 → (changes < root.length) ⊎ (2 ^ 30 < root.length) → ⊥
above_length root changes fits limit (inl above) = absurd (omega arith)
above_length root changes fits limit (inr above) = absurd (omega arith)

one_number : (k : ℕ) (root : Root) (image changes at other : ℕ) → IsWrongNumber k root image changes at → IsWrongNumber k root image changes other → at ≡ other
one_number k root image changes at other (inl x) (inl y) = x.0 ∙ sym y.0
one_number k root image changes at other (inl x) (inr (inl y)) = absurd (omega (arith, x.1, y.1))
one_number k root image changes at other (inl x) (inr (inr y)) = absurd (omega (arith, x.1, y.1))
one_number k root image changes at other (inr (inl x)) (inl y) = absurd (omega (arith, y.1, x.1))
one_number k root image changes at other (inr (inl x)) (inr (inl y)) = x.0 ∙ sym y.0
one_number k root image changes at other (inr (inl x)) (inr (inr y)) = absurd (omega (arith, x.2, y.2))
one_number k root image changes at other (inr (inr x)) (inl y) = absurd (omega (arith, y.1, x.1))
one_number k root image changes at other (inr (inr x)) (inr (inl y)) = absurd (omega (arith, y.2, x.2))
one_number k root image changes at other (inr (inr x)) (inr (inr y)) = x.0 ∙ sym y.0

module _ (name : List ℕ) (f : Files) where
  -- the wrong number of a root is that of the one chosen root
  same_wrong : (k l : ℕ) (r s : Root) (at : ℕ) → Chooses k r (f (roots_file name)) → Chooses l s (f (roots_file name))
      → IsWrongNumber l s (length (bytes_of (f (image_file name s.slot)))) (length (bytes_of (f (changes_file name s.slot)))) at
      → IsWrongNumber k r (length (bytes_of (f (image_file name r.slot)))) (length (bytes_of (f (changes_file name r.slot)))) at
  same_wrong k l r s at x y wrong =
      let number : l ≡ k = sym y.gate ∙ x.gate in
      let root : s ≡ r = sym y.names ∙ ap (λ n. root_at (place n) (bytes_of (f (roots_file name)))) number ∙ x.names in
      subst (λ (q : Root). IsWrongNumber k q (length (bytes_of (f (image_file name q.slot)))) (length (bytes_of (f (changes_file name q.slot)))) at) root
      (subst (λ n. IsWrongNumber n s (length (bytes_of (f (image_file name s.slot)))) (length (bytes_of (f (changes_file name s.slot)))) at) number wrong)

  front_of : (file : Option (List ℕ)) (k : ℕ) (root : Root) (at : ℕ) → Chooses k root file → root.slot ≤ 3 → IsWrongRoots file at → ⊥
  front_of None k root at chosen slot wrong = absurd (omega (arith, chosen.whole.long))
  front_of (Some file) k root at chosen slot wrong = front_right file k root chosen slot at wrong.1

  pub one_place : (at other : ℕ) → IsWrongRoots (f (roots_file name)) at ⊎ NamesTooMuch name f at → IsWrongRoots (f (roots_file name)) other ⊎ NamesTooMuch name f other → at ≡ other
  one_place at other (inl x) (inl y) = one_front (bytes_of (f (roots_file name))) at other x.1 y.1
  one_place at other (inl x) (inr y) = absurd (front_of (f (roots_file name)) y.number y.root at y.chosen y.slot x)
  one_place at other (inr x) (inl y) = absurd (front_of (f (roots_file name)) x.number x.root other x.chosen x.slot y)
  one_place at other (inr x) (inr y) = one_number x.number x.root _ _ at other x.wrong (same_wrong x.number y.number x.root y.root other x.chosen y.chosen y.wrong)

  pub none_missing : (at : ℕ) → f (roots_file name) ≡ None → IsWrongRoots (f (roots_file name)) at ⊎ NamesTooMuch name f at → ⊥
  none_missing at none (inl x) = true≢false (sym (subst IsSome none x.0))
  none_missing at none (inr x) = absurd (omega (arith, x.chosen.whole.long, ap (λ (o : Option (List ℕ)). length (bytes_of o)) none))

  pub none_opens : (at : ℕ) (c : Stored) → Opens name c f → IsWrongRoots (f (roots_file name)) at ⊎ NamesTooMuch name f at → ⊥
  none_opens at c opens (inl x) = front_of (f (roots_file name)) opens.number c.root at opens.chosen opens.sound.slot x
  none_opens at c opens (inr x) = by (same_wrong opens.number x.number c.root x.root at opens.chosen x.chosen x.wrong)
    where
      by : IsWrongNumber opens.number c.root (length (bytes_of (f (image_file name c.root.slot)))) (length (bytes_of (f (changes_file name c.root.slot)))) at → ⊥
      by (inl y) = absurd (omega (arith, y.1, opens.image.long))
      by (inr (inl y)) = absurd (omega (arith, y.2, opens.sound.base))
      by (inr (inr y)) = above_length c.root (length (bytes_of (f (changes_file name c.root.slot)))) opens.changes.long opens.sound.limit y.3

  pub opens_there : (c : Stored) → Opens name c f → f (roots_file name) ≡ None → ⊥
  opens_there c opens none = absurd (omega (arith, opens.chosen.whole.long, ap (λ (o : Option (List ℕ)). length (bytes_of o)) none))

-- WHAT OPENS

-- one root is chosen, and what it names is what the files have
opens_in : (name : List ℕ) (c : Stored) (f : Files) → Opens name c f → stored_in name f c.root ≡ c
opens_in name c f opens = λ i. record { root = c.root; image = opens.image.is i; changes = opens.changes.is i }

pub one_stored : (name : List ℕ) (c d : Stored) (f : Files) → Opens name c f → Opens name d f → c ≡ d
one_stored name c d f x y =
    let number : x.number ≡ y.number = sym x.chosen.gate ∙ y.chosen.gate in
    let root : c.root ≡ d.root = sym x.chosen.names ∙ ap (λ n. root_at (place n) (bytes_of (f (roots_file name)))) number ∙ y.chosen.names in
    sym (opens_in name c f x) ∙ ap (stored_in name f) root ∙ opens_in name d f y
