-- The objects that a written image has are those of the table that it was written from.
use Rattle.std.proofs.Common.{◌≡◌, ℕ, ◌+◌, ◌-◌, ◌*◌, ◌/◌, ◌%◌, ◌<◌, ◌≤◌, ◌⊎◌, inl, inr, true, false, cond, ◌==◌, List, length, get_or, refl, sym, ap, ◌∙◌, arith}
use Rattle.std.specs.Prelude.{Option, Some, None}
use Rattle.std.proofs.lemmas.Bool.{cases_lt, cases_Bool, cases_eq, eq-eqb, ne_eqb, eqb-true, eqb-false, both_ways}
use Rattle.std.proofs.lemmas.Option.{slice_get-get_or}
use Rattle.st_model.proofs.Made.{made_from}
use Rattle.st_model.specs.Lists.{made}
use Rattle.st_model.specs.declared.kind.Kind.{Kind}
use Rattle.st_model.specs.declared.kind.Kind.TheVariants as kind
use Rattle.st_model.specs.Values.{Value, Small, Ref, value_of, is_small}
use Rattle.st_model.specs.Objects.{Object, nil, is_pointers, is_words, is_method, holds_fields}
use Rattle.st_model.specs.Formed.{IsFormed, literals_of}
use Rattle.st_model.specs.Machine.{Head}
use Rattle.st_model.specs.Table.{Table, entry}
use Rattle.st_model.specs.Image.{is_used, class, body, literal_count}
use Rattle.st_model.specs.declared.head.ImageHead.{ImageHead}
use Rattle.st_model.specs.Start.{is_word_class, has_words, kind_in, field_count, byte_count, unit_count, fields_in, units_in, field_in, units_start, unit_in, object_in, entry_in}
use Rattle.st_writer.specs.Written.{word_of, unit_words, words_below, text_of}
use Rattle.st_writer.proofs.Bodies.{words_in_parts, length-object, field_word, unit_word, unit_byte}
use Rattle.st_writer.proofs.Placing.{letters_back}
use Rattle.st_writer.proofs.Entries.{head_of, IsWritable, is_odd, marks_at, place_at, size_at, class_at, body_at, byte_at, used_at, object_used}

-- a value is read back from its word
pub value_back : (x : Value) → value_of (word_of x) ≡ x
unfolding value_of
value_back (Small n) =
    let odd : ((2 * n + 1) % 2 == 1) ≡ true = eq-eqb _ _ (omega arith) in
    let half : (2 * n + 1) / 2 ≡ n = omega arith in
    (λ k. cond (odd k) (Small (half k)) (Ref ((2 * n + 1) / 2)))
value_back (Ref n) =
    let even : (2 * n % 2 == 1) ≡ false = ne_eqb (2 * n % 2) 1 (λ (e : 2 * n % 2 ≡ 1). omega arith) in
    let half : 2 * n / 2 ≡ n = omega arith in
    (λ k. cond (even k) (Small (2 * n / 2)) (Ref (half k)))

-- the kind from the marks
by_marks : (k : Kind) → cond (is_pointers k) kind.Pointers (cond (is_method k) kind.Method (cond (is_words k) kind.Words kind.Bytes)) ≡ k
by_marks kind.Pointers = refl
by_marks kind.Words = refl
by_marks kind.Bytes = refl
by_marks kind.Method = refl

class_34 : (c : ℕ) → (2 * c == 34) ≡ (c == 17)
class_34 c = last (cases_eq c 17)
  where
    last : ((c ≡ 17) ⊎ (c ≡ 17 → ⊥)) → (2 * c == 34) ≡ (c == 17)
    last (inl e) = eq-eqb (2 * c) 34 (omega arith) ∙ sym (eq-eqb c 17 e)
    last (inr e) = ne_eqb (2 * c) 34 (λ (f : 2 * c ≡ 34). e (omega arith)) ∙ sym (ne_eqb c 17 e)

-- the numbers of fields and units

fields_by : (k : Kind) (f u literals : ℕ) → (holds_fields k ≡ false → f ≡ 0) → (is_pointers k ≡ true → u ≡ 0) → (is_method k ≡ true → literals + 1 ≡ f)
    → field_count k (2 + f + unit_words k u - 2) literals ≡ f
fields_by kind.Pointers f u literals fieldless unitless header = omega arith
fields_by kind.Words f u literals fieldless unitless header = sym (fieldless refl)
fields_by kind.Bytes f u literals fieldless unitless header = sym (fieldless refl)
fields_by kind.Method f u literals fieldless unitless header = header refl

bytes_by : (u : ℕ) → byte_count ((u + 1) / 2) (u % 2 == 1) ≡ u
bytes_by u = last (cases_Bool (u % 2 == 1))
  where
    last : (((u % 2 == 1) ≡ true) ⊎ ((u % 2 == 1) ≡ false)) → 2 * ((u + 1) / 2) - cond (u % 2 == 1) 1 0 ≡ u
    last (inl e) = let odd = eqb-true (u % 2) 1 e in rw e (omega arith)
    last (inr e) = rw e (even (eqb-false (u % 2) 1 e))
      where
        even : (u % 2 ≡ 1 → ⊥) → 2 * ((u + 1) / 2) - 0 ≡ u
        even other = omega arith

units_by : (k : Kind) (f u : ℕ) → (is_pointers k ≡ true → u ≡ 0) → unit_count k (2 + f + unit_words k u - 2 - f) (is_odd k u) ≡ u
units_by kind.Pointers f u unitless = sym (unitless refl)
units_by kind.Words f u unitless = omega arith
units_by kind.Bytes f u unitless =
    let e : 2 + f + (u + 1) / 2 - 2 - f ≡ (u + 1) / 2 = omega arith in
    ap (λ (n : ℕ). byte_count n (u % 2 == 1)) e ∙ bytes_by u
units_by kind.Method f u unitless =
    let e : 2 + f + (u + 1) / 2 - 2 - f ≡ (u + 1) / 2 = omega arith in
    ap (λ (n : ℕ). byte_count n (u % 2 == 1)) e ∙ bytes_by u

-- the number of literals in the word of a header
header_literals : (x : Value) → is_small x ≡ true → literal_count (word_of x) ≡ literals_of x
header_literals (Small n) small = let e : (2 * n + 1) / 2 ≡ n = omega arith in ap (λ (m : ℕ). m % 64) e
header_literals (Ref n) small = cc

words_kind : (k : Kind) → is_words k ≡ true → k ≡ kind.Words
words_kind kind.Pointers e = cc
words_kind kind.Words e = refl
words_kind kind.Bytes e = cc
words_kind kind.Method e = cc

byte_room : (k : Kind) (u i : ℕ) → is_words k ≡ false → (is_pointers k ≡ true → u ≡ 0) → i < u → i < 2 * unit_words k u
byte_room kind.Pointers u i none unitless inside = let e = unitless refl in omega arith
byte_room kind.Words u i none unitless inside = cc
byte_room kind.Bytes u i none unitless inside = omega arith
byte_room kind.Method u i none unitless inside = omega arith

module _ (t : Table) (n : ℕ) (h : Head) (can : IsWritable t n) where
  abbrev head : ImageHead
  head = head_of t n h

  abbrev bytes : List ℕ
  bytes = text_of t n h

  module _ (k : ℕ) (o : Object) (k_in : k < n) (e : entry t k ≡ Some o) where
    is : IsFormed o
    is = can.formed k o e

    pub class_is : (class head bytes k == 34) ≡ is_method o.kind
    class_is = ap (λ (c : ℕ). c == 34) (class_at t n h can k o k_in e) ∙ class_34 o.class ∙ sym is.method

    pub kind_at : kind_in head bytes k ≡ o.kind
    unfolding kind_in has_words
    kind_at =
        let m = marks_at t n h can k o k_in e in
        (λ j. cond (m.pointers j) kind.Pointers (cond (class_is j) kind.Method (cond (cond (letters_back t n h j) (m.words j) (is_word_class head bytes (class head bytes k / 2))) kind.Words kind.Bytes)))
        ∙ by_marks o.kind

    -- a field
    pub field_at : (i : ℕ) → i < length o.fields → body head bytes k i ≡ word_of (get_or o.fields i nil)
    field_at i inside =
        let w = words_in_parts o is in
        body_at t n h can k o k_in e i (omega arith) ∙ field_word o is i nil inside

    -- the header of a method
    pub header_at : is_method o.kind ≡ true → (is_small (get_or o.fields 0 nil) ≡ true) × (literal_count (body head bytes k 0) + 1 ≡ length o.fields)
    header_at method =
        let some = is.has_header method in
        let x = get_or o.fields 0 nil in
        let header = is.header x (slice_get-get_or o.fields 0 nil some) method refl in
        let literals : literal_count (body head bytes k 0) ≡ literals_of x = ap literal_count (field_at 0 some) ∙ header_literals x header.0 in
        (header.0, let l = header.1 in omega arith)

    fields_at : fields_in head bytes k ≡ length o.fields
    unfolding fields_in
    fields_at =
        let w = words_in_parts o is in
        let s = size_at t n h can k o k_in e in
        (λ j. field_count (kind_at j) ((s ∙ w) j - 2) (literal_count (body head bytes k 0)))
        ∙ fields_by o.kind (length o.fields) (length o.units) (literal_count (body head bytes k 0)) (λ none. ap length (is.fieldless none)) (λ none. ap length (is.unitless none)) (λ method. (header_at method).1)

    units_at : units_in head bytes k ≡ length o.units
    unfolding units_in
    units_at =
        let w = words_in_parts o is in
        let s = size_at t n h can k o k_in e in
        let m = marks_at t n h can k o k_in e in
        (λ j. unit_count (kind_at j) ((s ∙ w) j - 2 - fields_at j) (m.odd j))
        ∙ units_by o.kind (length o.fields) (length o.units) (λ none. ap length (is.unitless none))

    -- a word or byte
    byte_in : (i : ℕ) → is_words o.kind ≡ false → i < length o.units → get_or bytes (units_start head bytes k + i) 0 ≡ get_or o.units i 0
    byte_in i bytewise inside =
        let f = fields_at in
        let p = place_at t n h can k o k_in e in
        let l = length-object o is in
        let w = words_in_parts o is in
        let r = byte_room o.kind (length o.units) i bytewise (λ none. ap length (is.unitless none)) inside in
        let at : units_start head bytes k + i ≡ 512 + (2 * words_below t k + (4 + 2 * length o.fields + i)) = omega arith in
        ap (λ (j : ℕ). get_or bytes j 0) at
        ∙ byte_at t n h can k o k_in e (4 + 2 * length o.fields + i) (omega arith)
        ∙ unit_byte o is i bytewise inside

    word_in : (i : ℕ) → is_words o.kind ≡ true → i < length o.units → body head bytes k i ≡ get_or o.units i 0
    word_in i wordwise inside =
        let words = words_kind o.kind wordwise in
        let w = words_in_parts o is in
        let u : unit_words o.kind (length o.units) ≡ length o.units = ap (λ (x : Kind). unit_words x (length o.units)) words in
        body_at t n h can k o k_in e i (omega arith) ∙ unit_word o is i words inside

    unit_at : (i : ℕ) → i < length o.units → unit_in head bytes k i ≡ get_or o.units i 0
    unfolding unit_in
    unit_at i inside =
        (λ j. cond (is_words (kind_at j)) (body head bytes k i) (get_or bytes (units_start head bytes k + i) 0))
        ∙ last (cases_Bool (is_words o.kind))
      where
        last : ((is_words o.kind ≡ true) ⊎ (is_words o.kind ≡ false)) → cond (is_words o.kind) (body head bytes k i) (get_or bytes (units_start head bytes k + i) 0) ≡ get_or o.units i 0
        last (inl words) = rw words (word_in i words inside)
        last (inr other) = rw other (byte_in i other inside)

    pub object_back : object_in head bytes k ≡ o
    unfolding object_in field_in
    object_back =
        let half : class head bytes k / 2 ≡ o.class = let c = class_at t n h can k o k_in e in omega arith in
        let fields : o.fields ≡ made (field_in head bytes k) (length o.fields) =
        made_from (field_in head bytes k) o.fields (length o.fields) nil refl
        (λ i inside. sym (ap value_of (field_at i inside) ∙ value_back (get_or o.fields i nil))) in
        let units : o.units ≡ made (unit_in head bytes k) (length o.units) =
        made_from (unit_in head bytes k) o.units (length o.units) 0 refl (λ i inside. sym (unit_at i inside)) in
        (λ j. record {
          class = half j;
          kind = kind_at j;
          fields = (ap (made (field_in head bytes k)) fields_at ∙ sym fields) j;
          units = (ap (made (unit_in head bytes k)) units_at ∙ sym units) j;
        })

  -- what stands at each place, where there is nothing at place 0 and none past the places that were written
  pub entry_back : entry t 0 ≡ None → ((k : ℕ) → n ≤ k → entry t k ≡ None) → (k : ℕ) → entry_in head bytes k ≡ entry t k
  unfolding entry_in
  entry_back unused past k = last (cases_Bool (is_used head bytes k))
    where
      free : (e : Option Object) → entry t k ≡ e → is_used head bytes k ≡ false → None ≡ e
      free None is none = refl
      free (Some o) is none = absurd (both_ways _ none (used_at t n h can k o below is above))
        where
          below : k < n
          below = by_place (cases_lt k n)
            where
              by_place : ((k < n) ⊎ (n ≤ k)) → k < n
              by_place (inl less) = less
              by_place (inr le) = let a = sym (past k le) ∙ is in cc

          above : 0 < k
          above = by_zero (cases_eq k 0)
            where
              by_zero : ((k ≡ 0) ⊎ (k ≡ 0 → ⊥)) → 0 < k
              by_zero (inl z) = let a = sym unused ∙ (ap (entry t) (sym z) ∙ is) in cc
              by_zero (inr other) = omega arith

      last : ((is_used head bytes k ≡ true) ⊎ (is_used head bytes k ≡ false)) → cond (is_used head bytes k) (Some (object_in head bytes k)) None ≡ entry t k
      last (inl used) = let u = object_used t n h can k used in rw used (ap Some (object_back k u.2.0 u.0 u.2.1) ∙ sym u.2.1)
      last (inr none) = rw none (free (entry t k) refl none)
