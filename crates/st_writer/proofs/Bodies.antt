-- What is read back of one object.
use Rattle.std.proofs.Common.{◌≡◌, ℕ, ◌+◌, ◌*◌, ◌/◌, ◌%◌, ◌<◌, ◌⊎◌, inl, inr, true, false, cond, List, [], ◌∷◌, ◌++◌, length, map, get_or, refl, sym, ap, ◌∙◌, arith, append-nil, length-append}
use Rattle.std.specs.Prelude.{◌==◌, if◌then◌else◌}
use Rattle.std.specs.List.{flat_map}
use Rattle.std.proofs.lemmas.Bool.{cases_Bool, eqb-true, eqb-false}
use Rattle.std.proofs.lemmas.List.{get_or_append_left, get_or-append-add, get_or-map, length-map}
use Rattle.st_model.specs.declared.kind.Kind.{Kind}
use Rattle.st_model.specs.declared.kind.Kind.TheVariants as kind
use Rattle.st_model.specs.Values.{Value}
use Rattle.st_model.specs.Objects.{Object, is_pointers, is_words, holds_fields, words_of}
use Rattle.st_model.specs.Formed.{IsFormed}
use Rattle.st_model.specs.Image.{number16}
use Rattle.st_writer.specs.Written.{word_bytes, word_of, filler, unit_bytes, unit_words, object_bytes}
use Rattle.st_writer.proofs.Bytes.{number16-word, number16-after, length-words, words_back}

length-filler : (n : ℕ) → length (filler n) ≡ n % 2
length-filler n = last (cases_Bool (n % 2 == 1))
  where
    last : (((n % 2 == 1) ≡ true) ⊎ ((n % 2 == 1) ≡ false)) → length {A = ℕ} (cond (n % 2 == 1) (0 ∷ []) []) ≡ n % 2
    last (inl e) = let odd = eqb-true (n % 2) 1 e in rw e (omega arith)
    last (inr e) = rw e (even (eqb-false (n % 2) 1 e))
      where
        even : (n % 2 ≡ 1 → ⊥) → 0 ≡ n % 2
        even other = omega arith

length-filled : (us : List ℕ) → length (us ++ filler (length us)) ≡ 2 * ((length us + 1) / 2)
length-filled us = let a = length-append us (filler (length us)) in let b = length-filler (length us) in omega arith

length-unit_bytes : (k : Kind) (us : List ℕ) → length (unit_bytes k us) ≡ 2 * unit_words k (length us)
length-unit_bytes kind.Pointers us = refl
length-unit_bytes kind.Words us = length-words us
length-unit_bytes kind.Bytes us = length-filled us
length-unit_bytes kind.Method us = length-filled us

words_by_kind : (k : Kind) (f u : ℕ) → (holds_fields k ≡ false → f ≡ 0) → (is_pointers k ≡ true → u ≡ 0)
    → (if is_words k then 2 + u else 2 + f + (u + 1) / 2) ≡ 2 + f + unit_words k u
words_by_kind kind.Pointers f u fieldless unitless = let e = unitless refl in omega arith
words_by_kind kind.Words f u fieldless unitless = let e = fieldless refl in omega arith
words_by_kind kind.Bytes f u fieldless unitless = refl
words_by_kind kind.Method f u fieldless unitless = refl

module _ (o : Object) (formed : IsFormed o) where
  pub words_in_parts : words_of o ≡ 2 + length o.fields + unit_words o.kind (length o.units)
  words_in_parts = words_by_kind o.kind (length o.fields) (length o.units) (λ k. ap length (formed.fieldless k)) (λ k. ap length (formed.unitless k))

  pub length-object : length (object_bytes o) ≡ 2 * words_of o
  length-object =
      let ws = map word_of o.fields in
      let a = length-append (flat_map word_bytes ws) (unit_bytes o.kind o.units) in
      let b = length-words ws in
      let c = length-map o.fields word_of in
      let d = length-unit_bytes o.kind o.units in
      let e = words_in_parts in
      omega arith

  pub size_word : number16 (object_bytes o) 0 ≡ words_of o
  size_word = number16-word (words_of o) (word_bytes (2 * o.class) ++ (flat_map word_bytes (map word_of o.fields) ++ unit_bytes o.kind o.units))

  pub class_word : number16 (object_bytes o) 2 ≡ 2 * o.class
  class_word =
      let rest = flat_map word_bytes (map word_of o.fields) ++ unit_bytes o.kind o.units in
      number16-after (word_bytes (words_of o)) (word_bytes (2 * o.class) ++ rest) 2 0 refl ∙ number16-word (2 * o.class) rest

  -- the word at a byte of the body
  body_word : (i : ℕ) → number16 (object_bytes o) (4 + i) ≡ number16 (flat_map word_bytes (map word_of o.fields) ++ unit_bytes o.kind o.units) i
  body_word i =
      let rest = flat_map word_bytes (map word_of o.fields) ++ unit_bytes o.kind o.units in
      let e : 4 + i ≡ 2 + (2 + i) = omega arith in
      ap (number16 (object_bytes o)) e
      ∙ number16-after (word_bytes (words_of o)) (word_bytes (2 * o.class) ++ rest) 2 (2 + i) refl
      ∙ number16-after (word_bytes (2 * o.class)) rest 2 i refl

  pub field_word : (i : ℕ) (d : Value) → i < length o.fields → number16 (object_bytes o) (4 + 2 * i) ≡ word_of (get_or o.fields i d)
  field_word i d inside =
      let l = length-map o.fields word_of in
      body_word (2 * i)
      ∙ words_back (map word_of o.fields) (unit_bytes o.kind o.units) i (omega arith)
      ∙ get_or-map word_of o.fields i d 0 inside

  pub unit_word : (i : ℕ) → o.kind ≡ kind.Words → i < length o.units → number16 (object_bytes o) (4 + 2 * i) ≡ get_or o.units i 0
  unit_word i words inside =
      let none : o.fields ≡ [] = formed.fieldless (ap holds_fields words) in
      body_word (2 * i)
      ∙ (λ k. number16 (flat_map word_bytes (map word_of (none k)) ++ unit_bytes (words k) o.units) (2 * i))
      ∙ ap (λ (x : List ℕ). number16 x (2 * i)) (sym (append-nil (flat_map word_bytes o.units)))
      ∙ words_back o.units [] i inside

  -- a byte of the body after the fields
  pub unit_byte : (i : ℕ) → is_words o.kind ≡ false → i < length o.units → get_or (object_bytes o) (4 + 2 * length o.fields + i) 0 ≡ get_or o.units i 0
  unit_byte i bytes inside =
      let ws = map word_of o.fields in
      let units = unit_bytes o.kind o.units in
      let rest = flat_map word_bytes ws ++ units in
      let b = length-words ws in
      let c = length-map o.fields word_of in
      let e : 4 + 2 * length o.fields + i ≡ 2 + (2 + (length (flat_map word_bytes ws) + i)) = omega arith in
      ap (λ (j : ℕ). get_or (object_bytes o) j 0) e
      ∙ get_or-append-add (word_bytes (words_of o)) (word_bytes (2 * o.class) ++ rest) (2 + (length (flat_map word_bytes ws) + i)) 0
      ∙ get_or-append-add (word_bytes (2 * o.class)) rest (length (flat_map word_bytes ws) + i) 0
      ∙ get_or-append-add (flat_map word_bytes ws) units i 0
      ∙ at_unit o.kind o.units bytes (λ k. ap length (formed.unitless k)) inside
    where
      at_unit : (k : Kind) (us : List ℕ) → is_words k ≡ false → (is_pointers k ≡ true → length us ≡ 0) → i < length us → get_or (unit_bytes k us) i 0 ≡ get_or us i 0
      at_unit kind.Pointers us none empty inside = let e = empty refl in absurd (omega arith)
      at_unit kind.Words us none empty inside = cc
      at_unit kind.Bytes us none empty inside = get_or_append_left us (filler (length us)) 0 i inside
      at_unit kind.Method us none empty inside = get_or_append_left us (filler (length us)) 0 i inside
