-- The parts of a live object, fields, words and bytes: where they are among the words that are stored, what is read there, and what a write leaves.
use Rattle.std.proofs.Common.{◌≡◌, ◌≢◌, ℕ, ◌+◌, ◌-◌, ◌*◌, ◌/◌, ◌%◌, ◌^◌, ◌<◌, ◌≤◌, Bool, true, false, List, Option, Some, length, take, drop, get_or, set, inl, inr, ◌⊎◌, refl, sym, ap, ◌∙◌, subst, arith}
use Rattle.std.specs.Prelude.{◌==◌, slice_get, if◌then◌else◌}
use Rattle.st_model.specs.declared.oop.Oop.{Oop}
use Rattle.st_model.specs.declared.kind.Kind.{Kind}
use Rattle.st_model.specs.declared.kind.Kind.TheVariants.{Pointers, Words, Bytes, Method}
use Rattle.st_model.specs.Formed.{IsHeader}
use Rattle.st_model.specs.Objects.{Object, is_method, is_words, first_unit, size_of, with_units}
use Rattle.st_model.specs.Table.{changed}
use Rattle.st_model.specs.Values.{value, value_of}
use Rattle.st_model.specs.View.{is_live, object_of, with_stored, with_unit}
use Rattle.st_cells.specs.inside.Words.{byte_of, with_run, with_bytes}
use Rattle.st_heap.specs.declared.objects.HeapObjects.{HeapObjects}
use Rattle.st_heap.specs.inside.Stored.{Stored, stored, with_cell, with_cells}
use Rattle.st_heap.specs.inside.Forms.{cell, field_count, unit_count, object_from, objects_in, IsSound, AllSound}
use Rattle.st_heap.specs.inside.Stores.{stored_of}
use Rattle.st_heap.specs.inside.Tables.{objects_of}
use Rattle.st_heap.proofs.Forming.{length-fields, unit_words, same_count, sound_cell, object-field, object-word, object-byte}
use Rattle.st_heap.proofs.Living.{IsKnown, known, size_in, size_stored, field_is, unit_is, no_fields, word_below, halved, even_before, same_half, byte_below, byte_stored, byte_stored_within}
use Rattle.st_heap.proofs.Changing.{sound_set, changed_stored, stored_field, stored_unit}
use Rattle.st_heap.proofs.Written.{words_end, words_read, words_written, bytes_end, bytes_read, bytes_written}

-- what is stored under a pointer, and the object that it names
abbrev under : HeapObjects → Oop → Stored
under o p = stored (stored_of o.store) (p.0 / 2)

abbrev named : HeapObjects → Oop → Object
named o p = object_of (objects_of o) (value p)

-- all that is stored, with other words under a pointer
abbrev over : HeapObjects → Oop → List ℕ → List (Option Stored)
over o p cells = set (stored_of o.store) (p.0 / 2) (Some (with_cells (under o p) cells))

module _ (o : HeapObjects) (p : Oop) (live : is_live (objects_of o) (value p) ≡ true) where
  is : IsKnown (stored_of o.store) p (under o p)
  is = known (stored_of o.store) p o.sound live

  -- its first two words

  pub size_within : 0 < length (under o p).cells
  size_within = let f = is.sound.fields in omega (arith, f)

  pub class_within : 1 < length (under o p).cells
  class_within = let f = is.sound.fields in omega (arith, f)

  pub odd_within : (under o p).odd ≡ true → 2 < length (under o p).cells
  odd_within odd = let some = is.sound.odd odd in omega (arith, some)

  pub size_word : cell (under o p) 0 ≡ length (under o p).cells
  size_word = is.sound.size

  -- its size by its kind and its mark

  size_is : (q : Kind) (b : Bool) → q ≡ (under o p).kind → b ≡ (under o p).odd → size_of (named o p) ≡ size_in q b (length (under o p).cells)
  size_is q b kind odd = ap size_of is.is ∙ size_stored (under o p) is.sound ∙ (λ i. size_in (sym kind i) (sym odd i) (length (under o p).cells))

  pub words_size : (q : Kind) → q ≡ (under o p).kind → (q ≡ Pointers) ⊎ (q ≡ Words) → size_of (named o p) ≡ length (under o p).cells - 2
  words_size q kind h = elim h [
    | inl e ↦ size_is Pointers (under o p).odd (sym e ∙ kind) refl
    | inr e ↦ size_is Words (under o p).odd (sym e ∙ kind) refl
  ]

  pub bytes_size : (q : Kind) (b : Bool) → q ≡ (under o p).kind → b ≡ (under o p).odd → (q ≡ Bytes) ⊎ (q ≡ Method) → size_of (named o p) ≡ 2 * (length (under o p).cells - 2) - (if b then 1 else 0)
  bytes_size q b kind odd h = elim h [
    | inl e ↦ size_is Bytes b (sym e ∙ kind) odd
    | inr e ↦ size_is Method b (sym e ∙ kind) odd
  ]

  -- a field

  fields_long : length (named o p).fields ≡ field_count (under o p)
  fields_long = ap (λ (x : Object). length x.fields) is.is ∙ length-fields (under o p)

  field_below : (at : ℕ) → at < length (named o p).fields → at < field_count (under o p)
  field_below at range = let long = fields_long in omega (arith, long, range)

  pub field_within : (at : ℕ) → at < length (named o p).fields → 2 + at < length (under o p).cells
  field_within at range =
      let below = field_below at range in
      let f = is.sound.fields in
      omega (arith, below, f)

  pub field_small : (at : ℕ) → at < length (named o p).fields → 2 + at < 2 ^ 32
  field_small at range =
      let below = field_below at range in
      let f = is.sound.fields in
      let small = is.sound.small in
      omega (arith, below, f, small)

  pub field_read : (at : ℕ) → at < length (named o p).fields → slice_get (named o p).fields at ≡ Some (value_of (cell (under o p) (2 + at)))
  field_read at range = ap (λ (x : Object). slice_get x.fields at) is.is ∙ field_is (under o p) at (field_below at range)

  pub field_written : (at : ℕ) (v : Oop) → at < length (named o p).fields → IsHeader (named o p) at (value v)
      → AllSound (over o p (set (under o p).cells (2 + at) v.0)) × (objects_in (over o p (set (under o p).cells (2 + at) v.0)) ≡ with_stored (objects_of o) (value p) at (value v))
  field_written at v range header =
      let s = under o p in
      let below = field_below at range in
      let within = field_within at range in
      let same = same_count s (2 + at) v.0 within (λ method e. (header (ap (λ (x : Object). is_method x.kind) is.is ∙ method) (omega (arith, e))).1 ∙ fields_long) in (
        sound_set (stored_of o.store) (p.0 / 2) (with_cell s (2 + at) v.0) o.sound (sound_cell s (2 + at) v.0 within is.sound (omega arith) same),
        stored_field (stored_of o.store) p s (with_cell s (2 + at) v.0) is at (value_of v.0) (object-field s at v.0 is.sound below same),
      )

-- a range of an object's words
module _ (o : HeapObjects) (p : Oop) (live : is_live (objects_of o) (value p) ≡ true) (kind : is_words (named o p).kind ≡ true) (at n : ℕ) (range : at + n ≤ size_of (named o p)) where
  abbrev s : Stored
  s = under o p

  has : IsKnown (stored_of o.store) p s
  has = is o p live

  words : is_words s.kind ≡ true
  words = subst (λ (x : Object). is_words x.kind ≡ true) has.is kind

  ranged : at + n ≤ size_of (object_from s)
  ranged = subst (λ (x : Object). at + n ≤ size_of x) has.is range

  pub words_within : (2 + at + n ≤ length s.cells) × (2 + at + n ≤ 65535)
  words_within =
      let within = (words_end s has.sound at n words ranged).0 in
      let small = has.sound.small in
      (within, omega (arith, within, small))

  pub words_taken : take n (drop (2 + at) s.cells) ≡ take n (drop at (named o p).units)
  words_taken = words_read s has.sound at n words ranged ∙ ap (λ (x : Object). take n (drop at x.units)) (sym has.is)

pub words_put : (o : HeapObjects) (p : Oop) → is_live (objects_of o) (value p) ≡ true → is_words (named o p).kind ≡ true → (at : ℕ) (ws : List ℕ) → at + length ws ≤ size_of (named o p)
    → AllSound (over o p (with_run (under o p).cells (2 + at) ws)) × (objects_in (over o p (with_run (under o p).cells (2 + at) ws)) ≡ changed (objects_of o) (p.0 / 2) (with_units (named o p) (with_run (named o p).units at ws)))
words_put o p live kind at ws range =
    let s = under o p in
    let h = is o p live in
    let w = words o p live kind at (length ws) range in
    let end = words_end s h.sound at (length ws) w (ranged o p live kind at (length ws) range) in
    let r = words_written s at ws h.sound w end.1 in (
      sound_set (stored_of o.store) (p.0 / 2) (with_cells s (with_run s.cells (2 + at) ws)) o.sound r.0,
      changed_stored (stored_of o.store) (p.0 / 2) s (with_cells s (with_run s.cells (2 + at) ws)) (with_units (object_from s) (with_run (object_from s).units at ws)) h.slot r.1
          ∙ ap (λ (x : Object). changed (objects_of o) (p.0 / 2) (with_units x (with_run x.units at ws))) (sym h.is),
    )

-- one of its words
module _ (o : HeapObjects) (p : Oop) (live : is_live (objects_of o) (value p) ≡ true) (kind : is_words (named o p).kind ≡ true) (at : ℕ) (range : at < size_of (named o p)) where
  only : at + 1 ≤ size_of (named o p)
  only = omega (arith, range)

  one : is_words (under o p).kind ≡ true
  one = words o p live kind at 1 only

  low : at < unit_count (under o p)
  low = word_below (under o p) at one (subst (λ (x : Object). at < size_of x) (is o p live).is range)

  none : field_count (under o p) ≡ 0
  none = no_fields (under o p).kind (length (under o p).cells) (cell (under o p) 2) one

  pub word_within : (2 + at < length (under o p).cells) × (2 + at < 65535)
  word_within = let r = words_within o p live kind at 1 only in let a = r.0 in let b = r.1 in (omega (arith, a), omega (arith, b))

  pub word_read : slice_get (named o p).units at ≡ Some (cell (under o p) (2 + at))
  word_read = ap (λ (x : Object). slice_get x.units at) (is o p live).is ∙ unit_is (under o p) at low ∙ ap Some (unit_words (under o p) at one ∙ ap (λ n. cell (under o p) (2 + n + at)) none)

  pub word_written : (v : ℕ) → AllSound (over o p (set (under o p).cells (2 + at) v)) × (objects_in (over o p (set (under o p).cells (2 + at) v)) ≡ with_unit (objects_of o) (value p) at v)
  word_written v =
      let s = under o p in
      let h = is o p live in
      let r = object-word s at v h.sound one low in
      let zero = none in
      let here : 2 + field_count s + at ≡ 2 + at = omega (arith, zero) in
      let sound : IsSound (with_cell s (2 + at) v) = subst (λ n. IsSound (with_cell s n v)) here (sound_cell s (2 + field_count s + at) v r.0 h.sound (omega arith) r.1) in (
        sound_set (stored_of o.store) (p.0 / 2) (with_cell s (2 + at) v) o.sound sound,
        stored_unit (stored_of o.store) p s (with_cell s (2 + at) v) h at v (ap (λ n. object_from (with_cell s n v)) (sym here) ∙ r.2),
      )

-- a range of its bytes
module _ (o : HeapObjects) (p : Oop) (live : is_live (objects_of o) (value p) ≡ true) (kind : is_words (named o p).kind ≡ false) (at n : ℕ) (above : first_unit (named o p) ≤ at) (range : at + n ≤ first_unit (named o p) + length (named o p).units) where
  ranges : (is_words (under o p).kind ≡ false) × (first_unit (object_from (under o p)) ≤ at) × (at + n ≤ first_unit (object_from (under o p)) + length (object_from (under o p)).units)
  ranges = subst (λ (x : Object). (is_words x.kind ≡ false) × (first_unit x ≤ at) × (at + n ≤ first_unit x + length x.units)) (is o p live).is (kind, above, range)

  pub bytes_within : 2 + (at + n + 1) / 2 ≤ length (under o p).cells
  bytes_within = bytes_end (under o p) (is o p live).sound at n ranges.0 ranges.1 ranges.2

  pub bytes_taken : (into : List ℕ) → length into ≡ n → ((j : ℕ) → j < n → get_or into j 0 ≡ byte_of (cell (under o p) (2 + (at + j) / 2)) (at + j)) → into ≡ take n (drop (at - first_unit (named o p)) (named o p).units)
  bytes_taken into long read = bytes_read (under o p) (is o p live).sound at n into ranges.0 ranges.1 ranges.2 long read ∙ ap (λ (x : Object). take n (drop (at - first_unit x) x.units)) (sym (is o p live).is)

pub bytes_put : (o : HeapObjects) (p : Oop) → is_live (objects_of o) (value p) ≡ true → is_words (named o p).kind ≡ false → (at : ℕ) (bs : List ℕ) → first_unit (named o p) ≤ at → at + length bs ≤ first_unit (named o p) + length (named o p).units → ((j : ℕ) → get_or bs j 0 < 256)
    → AllSound (over o p (with_bytes (under o p).cells 2 at bs)) × (objects_in (over o p (with_bytes (under o p).cells 2 at bs)) ≡ changed (objects_of o) (p.0 / 2) (with_units (named o p) (with_run (named o p).units (at - first_unit (named o p)) bs)))
bytes_put o p live kind at bs above range small =
    let s = under o p in
    let h = is o p live in
    let b = ranges o p live kind at (length bs) above range in
    let r = bytes_written s at bs h.sound b.0 b.1 b.2 small in (
      sound_set (stored_of o.store) (p.0 / 2) (with_cells s (with_bytes s.cells 2 at bs)) o.sound r.0,
      changed_stored (stored_of o.store) (p.0 / 2) s (with_cells s (with_bytes s.cells 2 at bs)) (with_units (object_from s) (with_run (object_from s).units (at - first_unit (object_from s)) bs)) h.slot r.1
          ∙ ap (λ (x : Object). changed (objects_of o) (p.0 / 2) (with_units x (with_run x.units (at - first_unit x) bs))) (sym h.is),
    )

-- one of its bytes
module _ (o : HeapObjects) (p : Oop) (live : is_live (objects_of o) (value p) ≡ true) (kind : is_words (named o p).kind ≡ false) (at : ℕ) (above : first_unit (named o p) ≤ at) (range : at < first_unit (named o p) + length (named o p).units) where
  lies : (is_words (under o p).kind ≡ false) × (first_unit (object_from (under o p)) ≤ at) × (at < first_unit (object_from (under o p)) + length (object_from (under o p)).units)
  lies = subst (λ (x : Object). (is_words x.kind ≡ false) × (first_unit x ≤ at) × (at < first_unit x + length x.units)) (is o p live).is (kind, above, range)

  pub byte_within : 2 + at / 2 < length (under o p).cells
  byte_within = byte_stored_within (under o p) at (is o p live).sound lies.0 lies.1 lies.2

  pub byte_read : slice_get (named o p).units (at - first_unit (named o p)) ≡ Some (byte_of (cell (under o p) (2 + at / 2)) at)
  byte_read = ap (λ (x : Object). slice_get x.units (at - first_unit x)) (is o p live).is ∙ byte_stored (under o p) at (is o p live).sound lies.0 lies.1 lies.2

  pub byte_written : (w v : ℕ) → byte_of w at ≡ v → ((j : ℕ) → j % 2 ≢ at % 2 → byte_of w j ≡ byte_of (cell (under o p) (2 + at / 2)) j)
      → AllSound (over o p (set (under o p).cells (2 + at / 2) w)) × (objects_in (over o p (set (under o p).cells (2 + at / 2) w)) ≡ with_unit (objects_of o) (value p) (at - first_unit (named o p)) v)
  byte_written w v here other =
      let s = under o p in
      let h = is o p live in
      let place = at - first_unit (object_from s) in
      let even = even_before s at h.sound lies.0 lies.1 lies.2 in
      let half = halved s at h.sound lies.0 lies.1 lies.2 in
      let r = object-byte s place w v h.sound lies.0 (byte_below s at h.sound lies.0 lies.1 lies.2)
      (same_half s at h.sound lies.0 lies.1 lies.2 w ∙ here)
      (λ j ne. other j (λ e. ne (e ∙ sym even)) ∙ ap (λ n. byte_of (cell s n) j) (sym half)) in
      let sound : IsSound (with_cell s (2 + at / 2) w) = subst (λ n. IsSound (with_cell s n w)) half (sound_cell s (2 + field_count s + place / 2) w r.0 h.sound (omega arith) r.1) in (
        sound_set (stored_of o.store) (p.0 / 2) (with_cell s (2 + at / 2) w) o.sound sound,
        stored_unit (stored_of o.store) p s (with_cell s (2 + at / 2) w) h place v (ap (λ n. object_from (with_cell s n w)) (sym half) ∙ r.2)
            ∙ ap (λ (x : Object). with_unit (objects_of o) (value p) (at - first_unit x) v) (sym h.is),
      )

-- the half of a word that a byte is in
pub upper_byte : (w at : ℕ) → at % 2 ≡ 0 → byte_of w at ≡ w / 256
upper_byte w at e = ap (λ b. if b then w / 256 else w % 256) (test e)
  where
    test : at % 2 ≡ 0 → (at % 2 == 0) ≡ true
    test q = grind (arith, q)

pub lower_byte : (w at : ℕ) → at % 2 ≢ 0 → byte_of w at ≡ w % 256
lower_byte w at e = ap (λ b. if b then w / 256 else w % 256) (test e)
  where
    test : at % 2 ≢ 0 → (at % 2 == 0) ≡ false
    test q = grind (arith, q)
