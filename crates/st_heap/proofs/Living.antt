-- Objects of the table and what is stored.
use Rattle.std.proofs.Common.{◌≡◌, ℕ, zero, suc, ◌+◌, ◌-◌, ◌*◌, ◌/◌, ◌%◌, ◌<◌, ◌≤◌, Bool, true, false, List, [], ◌∷◌, Option, Some, None, length, is_some, refl, sym, ap, ◌∙◌, subst, arith}
use Rattle.std.specs.Prelude.{◌==◌, ◌↔◌, IsTrue, unwrap_or, slice_get, if◌then◌else◌}
use Rattle.std.specs.Option.{option_map}
use Rattle.std.proofs.lemmas.List.{length-map, get_or-map}
use Rattle.std.proofs.lemmas.Option.{slice_get-get_or}
use Rattle.st_model.specs.declared.oop.Oop.{Oop}
use Rattle.st_model.specs.Values.{Value, Small, Ref, value, value_of, is_small}
use Rattle.st_model.specs.Objects.{nil}
use Rattle.st_model.specs.Table.{Table, entry}
use Rattle.st_model.specs.View.{nothing, is_live, object_of}
use Rattle.st_model.proofs.Pointers.{value_of-even, even_word}
use Rattle.st_heap.specs.inside.Stored.{Stored, run, slot, stored, nothing_stored, HasStored}
use Rattle.st_cells.specs.inside.Words.{byte_of}
use Rattle.st_heap.specs.inside.Forms.{cell, fields_in, field_count, units_in, unit_count, unit_at, object_from, objects_in, IsSound, AllSound}
use Rattle.st_model.specs.declared.kind.Kind.{Kind}
use Rattle.st_model.specs.declared.kind.Kind.TheVariants.{Pointers, Words, Bytes, Method}
use Rattle.st_model.specs.Objects.{is_words, is_pointers, first_unit, size_of}
use Rattle.st_heap.proofs.Forming.{length-fields, length-units, unit_bytes}
use Rattle.st_heap.proofs.Runs.{length-run, get_or-run}

module _ (all : List (Option Stored)) where
  abbrev t : Table
  t = objects_in all

  pub entry-stored : (n : ℕ) → entry t n ≡ option_map object_from (slot all n)
  entry-stored n = by_list all n
    where
      by_list : (xs : List (Option Stored)) (k : ℕ) → entry (objects_in xs) k ≡ option_map object_from (slot xs k)
      by_list [] k = refl
      by_list (x ∷ xs) zero = refl
      by_list (x ∷ xs) (suc k) = by_list xs k

  is_some-map : (x : Option Stored) → is_some (option_map object_from x) ≡ is_some x
  is_some-map None = refl
  is_some-map (Some s) = refl

  pub is_some-entry : (n : ℕ) → is_some (entry t n) ≡ is_some (slot all n)
  is_some-entry n = ap is_some (entry-stored n) ∙ is_some-map (slot all n)

  pub live_ref : (n : ℕ) → is_live t (Ref n) ≡ is_some (slot all n)
  unfolding is_live
  live_ref n = is_some-entry n

  pub even_value : (w : ℕ) → w % 2 ≡ 0 → value_of w ≡ Ref (w / 2)
  unfolding value_of
  even_value w e = by_test (w % 2 == 1) refl
    where
      by_test : (b : Bool) → (w % 2 == 1) ≡ b → (if b then Small (w / 2) else Ref (w / 2)) ≡ Ref (w / 2)
      by_test true q = absurd (grind (arith, q, e))
      by_test false q = refl

  live_cases : (v : Value) (n : ℕ) → (is_small v ≡ false → v ≡ Ref n) → is_live t v ≡ true → (is_small v ≡ false) × (is_some (slot all n) ≡ true)
  unfolding is_live
  live_cases (Small m) n h live = cc
  live_cases (Ref m) n h live = (refl, sym (live_ref n) ∙ ap (is_live t) (sym (h refl)) ∙ live)

  pub live_stored : (o : Oop) → is_live t (value o) ≡ true → HasStored all o
  live_stored o live =
      let r = live_cases (value o) (o.0 / 2) (value_of-even o.0) live in
      record { even = even_word o.0 r.0; there = r.1 }

  pub stored_live : (o : Oop) → HasStored all o → is_live t (value o) ≡ true
  stored_live o has = ap (is_live t) (even_value o.0 has.even) ∙ live_ref (o.0 / 2) ∙ has.there

  pub live_test : (b : Bool) (o : Oop) → (IsTrue b ↔ HasStored all o) → b ≡ is_live t (value o)
  live_test true o h = sym (stored_live o (h.0 refl))
  live_test false o h = by_live (is_live t (value o)) refl
    where
      by_live : (x : Bool) → is_live t (value o) ≡ x → false ≡ x
      by_live true q = let no : false ≡ true = h.1 (live_stored o q) in cc
      by_live false q = refl

  some_is : (x : Option Stored) → is_some x ≡ true → x ≡ Some (unwrap_or x nothing_stored)
  some_is None h = cc
  some_is (Some s) h = refl

  pub slot_stored : (o : Oop) → HasStored all o → slot all (o.0 / 2) ≡ Some (stored all (o.0 / 2))
  slot_stored o has = some_is (slot all (o.0 / 2)) has.there

  pub object_stored : (o : Oop) → HasStored all o → object_of t (value o) ≡ object_from (stored all (o.0 / 2))
  unfolding object_of
  object_stored o has = ap (object_of t) (even_value o.0 has.even) ∙ ap (λ x. unwrap_or x nothing) (entry-stored (o.0 / 2) ∙ ap (option_map object_from) (slot_stored o has))

  pub sound_stored : (o : Oop) → AllSound all → HasStored all o → IsSound (stored all (o.0 / 2))
  sound_stored o sound has = sound (o.0 / 2) (stored all (o.0 / 2)) (slot_stored o has)

-- a value of a function in a list of its values
pub field_is : (s : Stored) (at : ℕ) → at < field_count s → slice_get (object_from s).fields at ≡ Some (value_of (cell s (2 + at)))
field_is s at l =
    let long = length-run (λ i. cell s (2 + i)) (field_count s) in
    let size = length-map (run (λ i. cell s (2 + i)) (field_count s)) value_of in
    slice_get-get_or (object_from s).fields at nil (omega (arith, l, long, size))
    ∙ ap Some (get_or-map value_of (run (λ i. cell s (2 + i)) (field_count s)) at 0 nil (omega (arith, l, long)) ∙ ap value_of (get_or-run (λ i. cell s (2 + i)) (field_count s) at 0 l))

pub unit_is : (s : Stored) (at : ℕ) → at < unit_count s → slice_get (object_from s).units at ≡ Some (unit_at s at)
unit_is s at l =
    let long = length-run (unit_at s) (unit_count s) in
    slice_get-get_or (object_from s).units at 0 (omega (arith, l, long)) ∙ ap Some (get_or-run (unit_at s) (unit_count s) at 0 l)

-- how many units there are, by the kind and the mark

pub count_words : (s : Stored) → is_words s.kind ≡ true → length (object_from s).units ≡ length s.cells - (2 + field_count s)
count_words s words = length-units s ∙ ap (λ b. if b then length s.cells - (2 + field_count s) else 2 * (length s.cells - (2 + field_count s)) - (if s.odd then 1 else 0)) words

pub count_bytes : (s : Stored) (odd : Bool) → is_words s.kind ≡ false → s.odd ≡ odd → length (object_from s).units ≡ 2 * (length s.cells - (2 + field_count s)) - (if odd then 1 else 0)
count_bytes s odd bytes is =
    length-units s ∙ ap (λ b. if b then length s.cells - (2 + field_count s) else 2 * (length s.cells - (2 + field_count s)) - (if s.odd then 1 else 0)) bytes
    ∙ ap (λ b. 2 * (length s.cells - (2 + field_count s)) - (if b then 1 else 0)) is

-- the word that a byte is in is within
byte_within : (s : Stored) (at : ℕ) → IsSound s → is_words s.kind ≡ false → at < length (object_from s).units → 2 + field_count s + at / 2 < length s.cells
byte_within s at sound bytes l =
    let odd : ℕ = if s.odd then 1 else 0 in
    let count : length (object_from s).units ≡ 2 * (length s.cells - (2 + field_count s)) - odd = count_bytes s s.odd bytes refl in
    let f = sound.fields in omega (arith, l, count, f)

-- what is known of a live object
pub record IsKnown (all : List (Option Stored)) (o : Oop) (s : Stored) : Type 0 where
  pub has : HasStored all o
  pub slot : slot all (o.0 / 2) ≡ Some s
  pub sound : IsSound s
  pub is : object_of (objects_in all) (value o) ≡ object_from s

pub known : (all : List (Option Stored)) (o : Oop) → AllSound all → is_live (objects_in all) (value o) ≡ true → IsKnown all o (stored all (o.0 / 2))
known all o sound live =
    let has = live_stored all o live in
    record { has = has; slot = slot_stored all o has; sound = sound_stored all o sound has; is = object_stored all o has }

-- how many fields, words or bytes there are in n words, the size word and the class word among them
abbrev pub size_in : Kind → Bool → ℕ → ℕ
size_in Pointers odd n = n - 2
size_in Words odd n = n - 2
size_in Bytes odd n = 2 * (n - 2) - (if odd then 1 else 0)
size_in Method odd n = 2 * (n - 2) - (if odd then 1 else 0)

pub size_stored : (s : Stored) → IsSound s → size_of (object_from s) ≡ size_in s.kind s.odd (length s.cells)
size_stored s sound =
    (λ i. if is_pointers s.kind then length-fields s i else 2 * length-fields s i + length-units s i)
    ∙ by_kind s.kind (length s.cells) (cell s 2) s.odd (let f = sound.fields in f) sound.odd
  where
    by_kind : (k : Kind) (n third : ℕ) (odd : Bool) → 2 + fields_in k n third ≤ n → (odd ≡ true → 2 + fields_in k n third < n)
        → (if is_pointers k then fields_in k n third else 2 * fields_in k n third + units_in k odd (n - (2 + fields_in k n third))) ≡ size_in k odd n
    by_kind Pointers n third odd within some = refl
    by_kind Words n third odd within some = omega (arith, within)
    by_kind Bytes n third odd within some = omega (arith, within)
    by_kind Method n third true within some = let h = some refl in omega (arith, within, h)
    by_kind Method n third false within some = omega (arith, within)

-- an object of kind Words has no fields
pub no_fields : (k : Kind) (n third : ℕ) → is_words k ≡ true → fields_in k n third ≡ 0
no_fields Pointers n third h = cc
no_fields Words n third h = refl
no_fields Bytes n third h = cc
no_fields Method n third h = cc

pub word_below : (s : Stored) (at : ℕ) → is_words s.kind ≡ true → at < size_of (object_from s) → at < unit_count s
word_below s at words range =
    by_kind s.kind (length (object_from s).fields) (unit_count s) words (length-fields s ∙ no_fields s.kind (length s.cells) (cell s 2) words)
    (subst (λ n. at < (if is_pointers s.kind then length (object_from s).fields else 2 * length (object_from s).fields + n)) (length-units s) range)
  where
    by_kind : (k : Kind) (fields units : ℕ) → is_words k ≡ true → fields ≡ 0 → at < (if is_pointers k then fields else 2 * fields + units) → at < units
    by_kind Pointers fields units b none h = cc
    by_kind Words fields units b none h = omega (arith, none, h)
    by_kind Bytes fields units b none h = cc
    by_kind Method fields units b none h = cc

-- a byte, whose place counts the fields as two each: the word and the half that it is in
module _ (s : Stored) (at : ℕ) (sound : IsSound s) (bytes : is_words s.kind ≡ false) (above : first_unit (object_from s) ≤ at) (range : at < first_unit (object_from s) + length (object_from s).units) where
  abbrev pub among : ℕ
  among = at - first_unit (object_from s)

  counted : first_unit (object_from s) ≡ 2 * field_count s
  counted = ap (λ n. 2 * n) (length-fields s)

  pub halved : 2 + field_count s + among / 2 ≡ 2 + at / 2
  halved = let c = counted in omega (arith, c, above)

  pub even_before : among % 2 ≡ at % 2
  even_before = let c = counted in omega (arith, c, above)

  pub same_half : (w : ℕ) → byte_of w among ≡ byte_of w at
  same_half w = ap (λ m. if m == 0 then w / 256 else w % 256) even_before

  pub byte_below : among < unit_count s
  byte_below = let l = length-units s in omega (arith, above, range, l)

  pub byte_stored_within : 2 + at / 2 < length s.cells
  byte_stored_within =
      let low : among < length (object_from s).units = omega (arith, above, range) in
      subst (λ n. n < length s.cells) halved (byte_within s among sound bytes low)

  pub byte_stored : slice_get (object_from s).units among ≡ Some (byte_of (cell s (2 + at / 2)) at)
  byte_stored = unit_is s among byte_below ∙ ap Some (unit_bytes s among bytes ∙ ap (λ n. byte_of (cell s n) among) halved ∙ same_half (cell s (2 + at / 2)))
