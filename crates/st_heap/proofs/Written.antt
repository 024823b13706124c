-- What a stretch of words or bytes of a stored object is, and what one that is written changes.
use Rattle.std.proofs.Common.{◌≡◌, ◌≢◌, ℕ, suc, ◌+◌, ◌-◌, ◌*◌, ◌/◌, ◌%◌, ◌<◌, ◌≤◌, Bool, true, false, List, [], ◌∷◌, length, take, drop, get_or, refl, sym, ap, ◌∙◌, subst, arith, length-set}
use Rattle.std.specs.Prelude.{◌==◌, if◌then◌else◌}
use Rattle.std.proofs.lemmas.List.{ext_get_or, length-drop, length-take-le, get_or-take, get_or-drop}
use Rattle.std.proofs.lemmas.Option.{get_or_from_slice_get}
use Rattle.st_model.specs.declared.kind.Kind.{Kind}
use Rattle.st_model.specs.declared.kind.Kind.TheVariants.{Pointers, Words, Bytes, Method}
use Rattle.st_model.specs.Objects.{Object, is_words, first_unit, size_of, with_units, object_with_unit}
use Rattle.st_cells.specs.inside.Words.{byte_of, with_byte, with_run, with_bytes}
use Rattle.st_heap.specs.inside.Stored.{Stored, with_cell, with_cells}
use Rattle.st_heap.specs.inside.Forms.{cell, field_count, unit_count, unit_at, object_from, IsSound}
use Rattle.st_heap.proofs.Runs.{get_or-run}
use Rattle.st_heap.proofs.Forming.{length-fields, length-units, unit_words, object-word, object-byte, sound_cell}
use Rattle.st_heap.proofs.Living.{size_in, size_stored, no_fields, count_words, count_bytes, halved, even_before, same_half, byte_below, byte_stored}

length-taken : (xs : List ℕ) (i n : ℕ) → i + n ≤ length xs → length (take n (drop i xs)) ≡ n
length-taken xs i n l = length-take-le n (drop i xs) (let d = length-drop i xs in omega (arith, d, l))

words_in : (k : Kind) (odd : Bool) (n : ℕ) → is_words k ≡ true → size_in k odd n ≡ n - 2
words_in Pointers odd n h = cc
words_in Words odd n h = refl
words_in Bytes odd n h = cc
words_in Method odd n h = cc

module _ (s : Stored) (sound : IsSound s) where
  -- the words of a stretch are within
  pub words_end : (at n : ℕ) → is_words s.kind ≡ true → at + n ≤ size_of (object_from s) → (2 + at + n ≤ length s.cells) × (at + n ≤ unit_count s)
  words_end at n words range =
      let size = size_stored s sound ∙ words_in s.kind s.odd (length s.cells) words in
      let count = sym (length-units s) ∙ count_words s words in
      let none = no_fields s.kind (length s.cells) (cell s 2) words in
      let f = sound.fields in
      (omega (arith, range, size, f), omega (arith, range, size, count, none))

  pub bytes_end : (at n : ℕ) → is_words s.kind ≡ false → first_unit (object_from s) ≤ at → at + n ≤ first_unit (object_from s) + length (object_from s).units → 2 + (at + n + 1) / 2 ≤ length s.cells
  bytes_end at n bytes above range =
      let odd : ℕ = if s.odd then 1 else 0 in
      let count : length (object_from s).units ≡ 2 * (length s.cells - (2 + field_count s)) - odd = count_bytes s s.odd bytes refl in
      let fields = length-fields s in
      let f = sound.fields in
      omega (arith, range, count, fields, f, above)

  -- what is read
  pub words_read : (at n : ℕ) → is_words s.kind ≡ true → at + n ≤ size_of (object_from s) → take n (drop (2 + at) s.cells) ≡ take n (drop at (object_from s).units)
  words_read at n words range =
      let r = words_end at n words range in
      let within = r.0 in
      let low = r.1 in
      let long = length-units s in
      let a = length-taken s.cells (2 + at) n within in
      let b = length-taken (object_from s).units at n (omega (arith, low, long)) in
      ext_get_or 0 (take n (drop (2 + at) s.cells)) (take n (drop at (object_from s).units)) (a ∙ sym b) (λ j h.
      let small : j < n = omega (arith, h, a) in
      let none = no_fields s.kind (length s.cells) (cell s 2) words in
      let step : 2 + at + j ≡ 2 + (at + j) = omega arith in
      get_or-take n (drop (2 + at) s.cells) j 0 small ∙ get_or-drop (2 + at) s.cells j 0 ∙ ap (cell s) step
      ∙ sym (get_or-take n (drop at (object_from s).units) j 0 small ∙ get_or-drop at (object_from s).units j 0
      ∙ get_or-run (unit_at s) (unit_count s) (at + j) 0 (omega (arith, small, low)) ∙ unit_words s (at + j) words ∙ ap (λ f. cell s (2 + f + (at + j))) none))

  pub bytes_read : (at n : ℕ) (into : List ℕ) → is_words s.kind ≡ false → first_unit (object_from s) ≤ at → at + n ≤ first_unit (object_from s) + length (object_from s).units → length into ≡ n
      → ((j : ℕ) → j < n → get_or into j 0 ≡ byte_of (cell s (2 + (at + j) / 2)) (at + j)) → into ≡ take n (drop (at - first_unit (object_from s)) (object_from s).units)
  bytes_read at n into bytes above range long read =
      let first : ℕ = first_unit (object_from s) in
      let us = (object_from s).units in
      let b = length-taken us (at - first) n (omega (arith, above, range)) in
      ext_get_or 0 into (take n (drop (at - first) us)) (long ∙ sym b) (λ j h.
      let small : j < n = omega (arith, h, long) in
      let step : at + j - first ≡ at - first + j = omega (arith, above) in
      read j small
      ∙ sym (get_or-take n (drop (at - first) us) j 0 small ∙ get_or-drop (at - first) us j 0 ∙ ap (λ p. get_or us p 0) (sym step)
      ∙ get_or_from_slice_get us (at + j - first) (byte_of (cell s (2 + (at + j) / 2)) (at + j)) 0 (byte_stored s (at + j) sound bytes (omega (arith, above)) (omega (arith, range, small)))))

-- what is written

pub words_written : (s : Stored) (at : ℕ) (ws : List ℕ) → IsSound s → is_words s.kind ≡ true → at + length ws ≤ unit_count s
    → IsSound (with_cells s (with_run s.cells (2 + at) ws)) × (object_from (with_cells s (with_run s.cells (2 + at) ws)) ≡ with_units (object_from s) (with_run (object_from s).units at ws))
words_written s at [] sound words low = (sound, refl)
words_written s at (w ∷ ws) sound words low =
    let below : at < unit_count s = omega (arith, low) in
    let r = object-word s at w sound words below in
    let none = no_fields s.kind (length s.cells) (cell s 2) words in
    let here : 2 + field_count s + at ≡ 2 + at = omega (arith, none) in
    let t : Stored = with_cell s (2 + at) w in
    let one : object_from t ≡ object_with_unit (object_from s) at w = ap (λ n. object_from (with_cell s n w)) (sym here) ∙ r.2 in
    let sound_t : IsSound t = subst (λ n. IsSound (with_cell s n w)) here (sound_cell s (2 + field_count s + at) w r.0 sound (omega arith) r.1) in
    let long = length-units s in
    let long_t = length-units t in
    let same : length (object_from t).units ≡ length (object_from s).units = ap (λ (o : Object). length o.units) one ∙ length-set (object_from s).units at w in
    let rest = words_written t (suc at) ws sound_t words (omega (arith, low, long, long_t, same)) in
    let step : 2 + suc at ≡ suc (2 + at) = omega arith in (
      subst (λ n. IsSound (with_cells s (with_run t.cells n ws))) step rest.0,
      ap (λ n. object_from (with_cells s (with_run t.cells n ws))) (sym step) ∙ rest.1 ∙ ap (λ (o : Object). with_units o (with_run o.units (suc at) ws)) one,
    )

byte_here : (w i b : ℕ) → b < 256 → byte_of (with_byte w i b) i ≡ b
byte_here w i b small = by_half (i % 2 == 0)
  where
    by_half : (p : Bool) → (if p then (if p then b * 256 + w % 256 else w / 256 * 256 + b) / 256 else (if p then b * 256 + w % 256 else w / 256 * 256 + b) % 256) ≡ b
    by_half true = omega (arith, small)
    by_half false = omega (arith, small)

byte_other : (w i j b : ℕ) → b < 256 → j % 2 ≢ i % 2 → byte_of (with_byte w i b) j ≡ byte_of w j
byte_other w i j b small ne = by_half (i % 2 == 0) (j % 2 == 0) refl refl
  where
    by_half : (p q : Bool) → (i % 2 == 0) ≡ p → (j % 2 == 0) ≡ q → (if q then (if p then b * 256 + w % 256 else w / 256 * 256 + b) / 256 else (if p then b * 256 + w % 256 else w / 256 * 256 + b) % 256) ≡ (if q then w / 256 else w % 256)
    by_half true true e f = absurd (ne (grind (arith, e, f)))
    by_half true false e f = omega (arith, small)
    by_half false true e f = omega (arith, small)
    by_half false false e f = absurd (ne (grind (arith, e, f)))

pub bytes_written : (s : Stored) (at : ℕ) (bs : List ℕ) → IsSound s → is_words s.kind ≡ false → first_unit (object_from s) ≤ at → at + length bs ≤ first_unit (object_from s) + length (object_from s).units → ((j : ℕ) → get_or bs j 0 < 256)
    → IsSound (with_cells s (with_bytes s.cells 2 at bs)) × (object_from (with_cells s (with_bytes s.cells 2 at bs)) ≡ with_units (object_from s) (with_run (object_from s).units (at - first_unit (object_from s)) bs))
bytes_written s at [] sound bytes above range small = (sound, refl)
bytes_written s at (b ∷ bs) sound bytes above range small =
    let first : ℕ = first_unit (object_from s) in
    let among : ℕ = at - first in
    let low : at < first + length (object_from s).units = omega (arith, range) in
    let w : ℕ = with_byte (cell s (2 + at / 2)) at b in
    let half = halved s at sound bytes above low in
    let even = even_before s at sound bytes above low in
    let r = object-byte s among w b sound bytes (byte_below s at sound bytes above low)
    (same_half s at sound bytes above low w ∙ byte_here (cell s (2 + at / 2)) at b (small 0))
    (λ j ne. byte_other (cell s (2 + at / 2)) at j b (small 0) (λ e. ne (e ∙ sym even)) ∙ ap (λ n. byte_of (cell s n) j) (sym half)) in
    let t : Stored = with_cell s (2 + at / 2) w in
    let one : object_from t ≡ object_with_unit (object_from s) among b = ap (λ n. object_from (with_cell s n w)) (sym half) ∙ r.2 in
    let sound_t : IsSound t = subst (λ n. IsSound (with_cell s n w)) half (sound_cell s (2 + field_count s + among / 2) w r.0 sound (omega arith) r.1) in
    let first_t : first_unit (object_from t) ≡ first = ap (λ (o : Object). first_unit o) one in
    let same : length (object_from t).units ≡ length (object_from s).units = ap (λ (o : Object). length o.units) one ∙ length-set (object_from s).units among b in
    let above_t : first_unit (object_from t) ≤ suc at = subst (λ n. n ≤ suc at) (sym first_t) (omega (arith, above)) in
    let range_t : suc at + length bs ≤ first_unit (object_from t) + length (object_from t).units = subst (λ n. suc at + length bs ≤ n + length (object_from t).units) (sym first_t) (omega (arith, range, same)) in
    let rest = bytes_written t (suc at) bs sound_t bytes above_t range_t (λ j. small (suc j)) in
    let step : suc at - first ≡ suc among = omega (arith, above) in (
      rest.0,
      rest.1 ∙ ap (λ n. with_units (object_from t) (with_run (object_from t).units (suc at - n) bs)) first_t
          ∙ ap (λ n. with_units (object_from t) (with_run (object_from t).units n bs)) step
          ∙ ap (λ (o : Object). with_units o (with_run o.units (suc among) bs)) one,
    )
