-- What a written word changes of a stored object.
use Rattle.std.proofs.Common.{◌≡◌, ◌≢◌, ℕ, ◌+◌, ◌-◌, ◌*◌, ◌/◌, ◌%◌, ◌<◌, ◌≤◌, Bool, true, false, length, set, map, refl, sym, ap, ◌∙◌, arith, length-set}
use Rattle.std.specs.Prelude.{◌==◌, if◌then◌else◌}
use Rattle.std.proofs.lemmas.List.{length-map, map-set, get_or-set_same, get_or-set_other}
use Rattle.st_model.specs.declared.kind.Kind.{Kind}
use Rattle.st_model.specs.declared.kind.Kind.TheVariants.{Pointers, Words, Bytes, Method}
use Rattle.st_model.specs.Values.{value_of}
use Rattle.st_model.specs.Objects.{is_words, is_method, words_of, with_field, object_with_unit}
use Rattle.st_model.specs.Formed.{literals_of}
use Rattle.st_heap.specs.inside.Stored.{Stored, run, with_cell}
use Rattle.st_cells.specs.inside.Words.{byte_of}
use Rattle.st_heap.specs.inside.Forms.{cell, fields_in, field_count, units_in, unit_count, unit_at, object_from, IsSound}
use Rattle.st_heap.proofs.Runs.{length-run, run_same, run_set}

pub length-fields : (s : Stored) → length (object_from s).fields ≡ field_count s
length-fields s = length-map (run (λ i. cell s (2 + i)) (field_count s)) value_of ∙ length-run (λ i. cell s (2 + i)) (field_count s)

pub length-units : (s : Stored) → length (object_from s).units ≡ unit_count s
length-units s = length-run (unit_at s) (unit_count s)

half_count : (n : ℕ) (odd : Bool) → (odd ≡ true → 0 < n) → (2 * n - (if odd then 1 else 0) + 1) / 2 ≡ n
half_count n true some = let h = some refl in omega (arith, h)
half_count n false some = omega arith

-- it has as many words as are stored
pub words_of-stored : (s : Stored) → IsSound s → words_of (object_from s) ≡ length s.cells
words_of-stored s sound =
    (λ i. if is_words s.kind then 2 + length-units s i else 2 + length-fields s i + (length-units s i + 1) / 2)
    ∙ by_kind s.kind (length s.cells) (cell s 2) s.odd (let f = sound.fields in f) sound.odd
  where
    by_kind : (k : Kind) (n third : ℕ) (odd : Bool) → 2 + fields_in k n third ≤ n → (odd ≡ true → 2 + fields_in k n third < n)
        → (if is_words k then 2 + units_in k odd (n - (2 + fields_in k n third)) else 2 + fields_in k n third + (units_in k odd (n - (2 + fields_in k n third)) + 1) / 2) ≡ n
    by_kind Pointers n third odd within some = let h = half_count (n - (2 + (n - 2))) odd (λ o. let l = some o in omega (arith, l)) in omega (arith, h, within)
    by_kind Words n third odd within some = omega (arith, within)
    by_kind Bytes n third odd within some = let h = half_count (n - (2 + 0)) odd (λ o. let l = some o in omega (arith, l)) in omega (arith, h, within)
    by_kind Method n third odd within some =
        let h = half_count (n - (2 + (literals_of (value_of third) + 1))) odd (λ o. let l = some o in omega (arith, l)) in omega (arith, h, within)

pub unit_words : (u : Stored) (j : ℕ) → is_words u.kind ≡ true → unit_at u j ≡ cell u (2 + field_count u + j)
unit_words u j words = ap (λ b. if b then cell u (2 + field_count u + j) else byte_of (cell u (2 + field_count u + j / 2)) j) words

pub unit_bytes : (u : Stored) (j : ℕ) → is_words u.kind ≡ false → unit_at u j ≡ byte_of (cell u (2 + field_count u + j / 2)) j
unit_bytes u j bytes = ap (λ b. if b then cell u (2 + field_count u + j) else byte_of (cell u (2 + field_count u + j / 2)) j) bytes

-- a Method has a field
pub some_field : (k : Kind) (n third : ℕ) → is_method k ≡ true → 0 < fields_in k n third
some_field Pointers n third h = cc
some_field Words n third h = cc
some_field Bytes n third h = cc
some_field Method n third h = omega arith

module _ (s : Stored) (i w : ℕ) (within : i < length s.cells) where
  abbrev t : Stored
  t = with_cell s i w

  pub cell_here : cell t i ≡ w
  cell_here = get_or-set_same s.cells i w 0 within

  pub cell_other : (j : ℕ) → j ≢ i → cell t j ≡ cell s j
  cell_other j ne = get_or-set_other s.cells i j w 0 ne

  long : length t.cells ≡ length s.cells
  long = length-set s.cells i w

  -- a word that is no header, or counts as many literals, leaves as many fields
  pub same_count : (is_method s.kind ≡ true → i ≡ 2 → literals_of (value_of w) + 1 ≡ field_count s) → field_count t ≡ field_count s
  same_count header = by_kind s.kind (length s.cells) (length t.cells) (cell s 2) (cell t 2) long header (λ ne. cell_other 2 ne) (λ e. ap (cell t) e ∙ cell_here)
    where
      by_kind : (k : Kind) (n n' third third' : ℕ) → n' ≡ n → (is_method k ≡ true → i ≡ 2 → literals_of (value_of w) + 1 ≡ fields_in k n third) → (2 ≢ i → third' ≡ third) → (2 ≡ i → third' ≡ w) → fields_in k n' third' ≡ fields_in k n third
      by_kind Pointers n n' third third' same h other here = ap (λ m. m - 2) same
      by_kind Words n n' third third' same h other here = refl
      by_kind Bytes n n' third third' same h other here = refl
      by_kind Method n n' third third' same h other here = by_place (2 == i) refl
        where
          by_place : (b : Bool) → (2 == i) ≡ b → literals_of (value_of third') + 1 ≡ literals_of (value_of third) + 1
          by_place true m = let z : 2 ≡ i = grind (arith, m) in ap (λ x. literals_of (value_of x) + 1) (here z) ∙ h refl (sym z)
          by_place false m = let ne : 2 ≢ i = λ z. grind (arith, m, z) in ap (λ x. literals_of (value_of x) + 1) (other ne)

  same_units : field_count t ≡ field_count s → unit_count t ≡ unit_count s
  same_units same = λ x. units_in s.kind s.odd (long x - (2 + same x))

  -- a word of the body that keeps the count of fields keeps the form
  pub sound_cell : IsSound s → 2 ≤ i → field_count t ≡ field_count s → IsSound t
  sound_cell sound above same =
      let f = sound.fields in
      let small = sound.small in
      record {
        size = cell_other 0 (omega (arith, above)) ∙ sound.size ∙ sym long;
        small = omega (arith, small, long);
        class = ap (λ x. x % 2) (cell_other 1 (omega (arith, above))) ∙ sound.class;
        fields = omega (arith, f, long, same);
        odd = λ o. let l = sound.odd o in omega (arith, l, long, same);
      }

  same_class : 2 ≤ i → cell t 1 / 2 ≡ cell s 1 / 2
  same_class above = ap (λ x. x / 2) (cell_other 1 (omega (arith, above)))

  same_unit : ((m : ℕ) → cell t (2 + field_count t + m) ≡ cell s (2 + field_count s + m)) → (j : ℕ) → unit_at t j ≡ unit_at s j
  same_unit same j = λ x. if is_words s.kind then same j x else byte_of (same (j / 2) x) j

  same_fields : field_count t ≡ field_count s → 2 + field_count s ≤ i → (object_from t).fields ≡ (object_from s).fields
  same_fields same above =
      ap (λ n. map value_of (run (λ j. cell t (2 + j)) n)) same
      ∙ ap (map value_of) (run_same (λ j. cell t (2 + j)) (λ j. cell s (2 + j)) (field_count s) (λ j l. cell_other (2 + j) (omega (arith, l, above))))

-- a field that is written
pub object-field : (s : Stored) (at w : ℕ) → IsSound s → at < field_count s → field_count (with_cell s (2 + at) w) ≡ field_count s → object_from (with_cell s (2 + at) w) ≡ with_field (object_from s) at (value_of w)
object-field s at w sound below same =
    let f = sound.fields in
    let within : 2 + at < length s.cells = omega (arith, below, f) in
    let t = with_cell s (2 + at) w in
    let fields : (object_from t).fields ≡ set (object_from s).fields at (value_of w) =
    ap (λ n. map value_of (run (λ j. cell t (2 + j)) n)) same
    ∙ ap (map value_of) (run_set (λ j. cell s (2 + j)) (λ j. cell t (2 + j)) (field_count s) at w below (cell_here s (2 + at) w within) (λ j l ne. cell_other s (2 + at) w within (2 + j) (λ z. ne (omega (arith, z)))))
    ∙ map-set value_of (run (λ j. cell s (2 + j)) (field_count s)) at w in
    let units : (object_from t).units ≡ (object_from s).units =
    ap (run (unit_at t)) (same_units s (2 + at) w within same)
    ∙ run_same (unit_at t) (unit_at s) (unit_count s) (λ j l. same_unit s (2 + at) w within (λ m. ap (λ n. cell t (2 + n + m)) same ∙ cell_other s (2 + at) w within (2 + field_count s + m) (omega (arith, below))) j) in
    λ i. record { class = same_class s (2 + at) w within (omega arith) i; kind = s.kind; fields = fields i; units = units i }

-- a unit that is written: the word that it is in has it at its place, and the others as before
pub object-unit : (s : Stored) (place at w v : ℕ) → place < length s.cells → 2 + field_count s ≤ place → at < unit_count s → field_count (with_cell s place w) ≡ field_count s → unit_at (with_cell s place w) at ≡ v
    → ((j : ℕ) → j ≢ at → unit_at (with_cell s place w) j ≡ unit_at s j) → object_from (with_cell s place w) ≡ object_with_unit (object_from s) at v
object-unit s place at w v within above below same here others =
    let t = with_cell s place w in
    let units : (object_from t).units ≡ set (object_from s).units at v =
    ap (run (unit_at t)) (same_units s place w within same) ∙ run_set (unit_at s) (unit_at t) (unit_count s) at v below here (λ j l ne. others j ne) in
    λ i. record { class = same_class s place w within (omega (arith, above)) i; kind = s.kind; fields = same_fields s place w within same above i; units = units i }

-- a word of kind Words that is written
pub object-word : (s : Stored) (at w : ℕ) → IsSound s → is_words s.kind ≡ true → at < unit_count s → (2 + field_count s + at < length s.cells) × (field_count (with_cell s (2 + field_count s + at) w) ≡ field_count s) × (object_from (with_cell s (2 + field_count s + at) w) ≡ object_with_unit (object_from s) at w)
object-word s at w sound words below =
    let f = sound.fields in
    let count : unit_count s ≡ length s.cells - (2 + field_count s) = ap (λ b. if b then length s.cells - (2 + field_count s) else 2 * (length s.cells - (2 + field_count s)) - (if s.odd then 1 else 0)) words in
    let within : 2 + field_count s + at < length s.cells = omega (arith, below, count, f) in
    let same = same_count s (2 + field_count s + at) w within (λ method e. let none = no_method s.kind words method in absurd none) in
    let place = 2 + field_count s + at in (
      within,
      same,
      object-unit s place at w w within (omega arith) below same
          (unit_words (with_cell s place w) at words ∙ ap (λ n. cell (with_cell s place w) (2 + n + at)) same ∙ cell_here s place w within)
          (λ j ne. unit_words (with_cell s place w) j words ∙ ap (λ n. cell (with_cell s place w) (2 + n + j)) same ∙ cell_other s place w within (2 + field_count s + j) (λ z. ne (omega (arith, z))) ∙ sym (unit_words s j words)),
    )
  where
    no_method : (k : Kind) → is_words k ≡ true → is_method k ≡ true → ⊥
    no_method Pointers a b = cc
    no_method Words a b = cc
    no_method Bytes a b = cc
    no_method Method a b = cc

-- a byte that is written: its word has it in its half
pub object-byte : (s : Stored) (at w v : ℕ) → IsSound s → is_words s.kind ≡ false → at < unit_count s → byte_of w at ≡ v → ((j : ℕ) → j % 2 ≢ at % 2 → byte_of w j ≡ byte_of (cell s (2 + field_count s + at / 2)) j)
    → (2 + field_count s + at / 2 < length s.cells) × (field_count (with_cell s (2 + field_count s + at / 2) w) ≡ field_count s) × (object_from (with_cell s (2 + field_count s + at / 2) w) ≡ object_with_unit (object_from s) at v)
object-byte s at w v sound bytes below here half =
    let f = sound.fields in
    let place = 2 + field_count s + at / 2 in
    let odd : ℕ = if s.odd then 1 else 0 in
    let count : unit_count s ≡ 2 * (length s.cells - (2 + field_count s)) - odd = ap (λ b. if b then length s.cells - (2 + field_count s) else 2 * (length s.cells - (2 + field_count s)) - odd) bytes in
    let within : place < length s.cells = omega (arith, below, count, f) in
    let same = same_count s place w within (λ method e. let some = some_field s.kind (length s.cells) (cell s 2) method in absurd (omega (arith, some, e))) in (
      within,
      same,
      object-unit s place at w v within (omega arith) below same
          (unit_bytes (with_cell s place w) at bytes ∙ ap (λ n. byte_of (cell (with_cell s place w) (2 + n + at / 2)) at) same ∙ ap (λ x. byte_of x at) (cell_here s place w within) ∙ here)
          (λ j ne. unit_bytes (with_cell s place w) j bytes ∙ ap (λ n. byte_of (cell (with_cell s place w) (2 + n + j / 2)) j) same ∙ by_word within j ne (j / 2 == at / 2) refl ∙ sym (unit_bytes s j bytes)),
    )
  where
    by_word : 2 + field_count s + at / 2 < length s.cells → (j : ℕ) → j ≢ at → (b : Bool) → (j / 2 == at / 2) ≡ b → byte_of (cell (with_cell s (2 + field_count s + at / 2) w) (2 + field_count s + j / 2)) j ≡ byte_of (cell s (2 + field_count s + j / 2)) j
    by_word within j ne true m =
        let z : j / 2 ≡ at / 2 = grind (arith, m) in
        let apart : j % 2 ≢ at % 2 = λ e. ne (omega (arith, z, e)) in
        ap (λ q. byte_of (cell (with_cell s (2 + field_count s + at / 2) w) (2 + field_count s + q)) j) z
        ∙ ap (λ x. byte_of x j) (cell_here s (2 + field_count s + at / 2) w within) ∙ half j apart
        ∙ ap (λ q. byte_of (cell s (2 + field_count s + q)) j) (sym z)
    by_word within j ne false m =
        let differ : j / 2 ≢ at / 2 = λ z. grind (arith, m, z) in
        ap (λ x. byte_of x j) (cell_other s (2 + field_count s + at / 2) w within (2 + field_count s + j / 2) (λ z. differ (omega (arith, z))))
