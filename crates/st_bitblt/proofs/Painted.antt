-- The words that are put down row by row are those that are painted.
use Rattle.std.proofs.Common.{◌≡◌, ◌≢◌, ℕ, ◌+◌, ◌-◌, ◌*◌, ◌/◌, ◌%◌, ◌<◌, ◌≤◌, min, true, false, arith, refl, sym, ◌∙◌, ap, get_or, inl, inr, ◌⊎◌, Option, Some, None}
use Rattle.std.specs.Prelude.{ℤ, pos, nat_abs}
use Rattle.std.specs.Int.{bit_at}
use Rattle.std.specs.Option.{option_map}
use Rattle.std.proofs.Math.Nat.{add-mul, mul_assoc, mul_comm, mul-add-mod_self_right, mul-add-div_right, mod-eq_of_lt, div-eq_of_lt}
use Rattle.std.proofs.lemmas.Nat.{div-add-mod'}
use Rattle.std.proofs.lemmas.Bool.{cases_order, and_parts, and_from}
use Rattle.st_model.specs.Values.{Value, word}
use Rattle.st_model.specs.View.{View}
use Rattle.st_model.specs.Pixels.{AllFit, pixel, combine, row_words}
use Rattle.st_model.specs.BitBlt.{Form as ModelForm, Copy, copies_to, is_copied, line_from, source_pixel, halftone_pixel, formula, pixel_after, row_pixels, painted_pixel, painted}
use Rattle.st_model.proofs.Painting.{painted-alone}
use Rattle.st_bitblt.specs.declared.bit_blt.BitBlt.{BitBlt}
use Rattle.st_bitblt.specs.declared.form.Form.{Form}
use Rattle.st_bitblt.specs.declared.rows.Layout.{Layout}
use Rattle.st_bitblt.specs.declared.rows.Pen.{Pen}
use Rattle.st_bitblt.specs.declared.span.Span.{Span}
use Rattle.st_bitblt.specs.declared.direction.Direction.{Direction}
use Rattle.st_bitblt.specs.inside.Words.{words, HasWords, with_words}
use Rattle.st_bitblt.specs.inside.Copied.{pixel_from, shaded}
use Rattle.st_bitblt.specs.inside.Rows.{RowsCopied, tone_of, HasRoom}
use Rattle.st_bitblt.specs.inside.Reading.{IsBitBlt, copy_in, form_in, axis_of}
use Rattle.st_bitblt.specs.inside.Spans.{IsSpan}
use Rattle.st_bitblt.specs.inside.Painting.{bits_of, width_of, height_of, source_words, tone_at, IsLayoutOf}
use Rattle.st_bitblt.proofs.Bits.{ones_bit}
use Rattle.st_bitblt.proofs.Words.{words_same}
use Rattle.st_bitblt.proofs.RowLaws.{row_before}
use Rattle.st_model.proofs.SettledIs.{bool_cases}

-- what was read and clipped of a BitBlt
pub record IsPlan (old : View) (b : BitBlt) (x y : Span) (a : Layout) (pen : Pen) : Type 0 where
  pub across : IsSpan (axis_of b.across) b.destination.width (width_of b.source) x
  pub down : IsSpan (axis_of b.down) b.destination.height (height_of b.source) y
  pub layout : IsLayoutOf x y (row_words b.destination.width) (source_words b.source) a
  pub rule : pen.rule ≡ b.rule
  pub tones : (i : ℕ) → i < 16 → get_or pen.tones i 0 ≡ tone_at old b.halftone i
  pub first : pen.first ≡ y.to

moved : (r w : ℕ) → r * (16 * w) ≡ 16 * (r * w)
moved r w = sym (mul_assoc r 16 w) ∙ ap (λ z. z * w) (mul_comm r 16) ∙ mul_assoc 16 r w

row_of : (w k x y : ℕ) → x < 16 * w → k ≡ y * (16 * w) + x → (k % (16 * w) ≡ x) × (k / (16 * w) ≡ y)
row_of w k x y h e =
    let pos : 0 < 16 * w = omega arith in
    let m : k % (16 * w) ≡ x = ap (λ t. t % (16 * w)) e ∙ mul-add-mod_self_right y (16 * w) x ∙ mod-eq_of_lt h in
    let d : k / (16 * w) ≡ y + x / (16 * w) = ap (λ t. t / (16 * w)) e ∙ mul-add-div_right pos y x in
    let z : x / (16 * w) ≡ 0 = div-eq_of_lt h in
    (m, omega arith)

-- the place of pixel k of row l of a layout
row_place : (start first lines from step l k : ℕ) → start ≡ lines * step + first → start + l * step + k ≡ (lines + l) * step + (first + k)
row_place start first lines from step l k e =
    let f : (lines + l) * step ≡ lines * step + l * step = add-mul lines l step in
    rw f (omega (arith, e))

widths : (v : View) (s : Option Form) → option_map (λ (f : ModelForm). f.width) (option_map (form_in v.objects) s) ≡ width_of s
widths v None = refl
widths v (Some f) = refl

heights : (v : View) (s : Option Form) → option_map (λ (f : ModelForm). f.height) (option_map (form_in v.objects) s) ≡ height_of s
heights v None = refl
heights v (Some f) = refl

source_is : (v : View) (s : Option Form) (u w : ℤ) (i j k : ℕ) → ((n : ℕ) → width_of s ≡ Some n → u ≡ pos i) → ((n : ℕ) → height_of s ≡ Some n → w ≡ pos j) → k ≡ j * (16 * source_words s) + i
    → pixel_from v (bits_of s) k ≡ source_pixel (option_map (form_in v.objects) s) u w
source_is v None u w i j k hu hw e = refl
source_is v (Some f) u w i j k hu hw e =
    let a : nat_abs u ≡ i = ap nat_abs (hu f.width refl) in
    let b : nat_abs w ≡ j = ap nat_abs (hw f.height refl) in
    rw (e, a, b) refl

tone_is : (v : View) (h : Option Form) (tone x y : ℕ) → tone ≡ tone_at v h (y % 16) → bit_at tone (15 - x % 16) ≡ halftone_pixel (option_map (form_in v.objects) h) x y
tone_is v None tone x y e = ap (λ z. bit_at z (15 - x % 16)) e ∙ ones_bit (15 - x % 16) (omega arith)
tone_is v (Some f) tone x y e = ap (λ z. bit_at z (15 - x % 16)) e

after_copied : (c : Copy) (x y d : ℕ) → is_copied c x y ≡ true → pixel_after c x y d ≡ formula c x y d
unfolding pixel_after
after_copied c x y d e = rw e refl

after_left : (c : Copy) (x y d : ℕ) → is_copied c x y ≡ false → pixel_after c x y d ≡ d
unfolding pixel_after
after_left c x y d e = rw e refl

-- a row of the source has room for the pixels that are copied
pub narrow : (d : Direction) (lines : ℕ) (s : Option Form) (x : Span) → IsSpan (axis_of d) lines (width_of s) x → 0 < x.count → x.count ≤ 16 * source_words s
narrow d lines None x span some = let e = span.from_end some in omega (arith, e)
narrow d lines (Some f) x span some =
    let e = (span.from f.width (x.count - 1) refl (omega arith)).1 in
    let w : f.width ≤ 16 * row_words f.width = omega arith in
    omega (arith, e, w)

-- rows lie within the words of the destination
pub has_room : (d e : Direction) (f : Form) (s : Option Form) (n : ℕ) (x y : Span) (a : Layout) → IsSpan (axis_of d) f.width (width_of s) x → IsSpan (axis_of e) f.height (height_of s) y → f.height * row_words f.width ≤ n
    → 0 < x.count → IsLayoutOf x y (row_words f.width) (source_words s) a → HasRoom a n
has_room d e f s n x y a sx sy enough some is j h =
    let t = sy.to_end (omega (arith, is.height, h)) in
    let u = sx.to_end some in
    let w : f.width ≤ 16 * row_words f.width = omega arith in
    let below : y.to + j < f.height = omega (arith, t, is.height, h) in
    let b : (y.to + j) * (16 * row_words f.width) + 16 * row_words f.width ≤ f.height * (16 * row_words f.width) = row_before (16 * row_words f.width) (y.to + j) f.height (16 * row_words f.width) below (omega arith) in
    let q : a.p ≡ y.to * a.along + x.to = is.p ∙ ap (λ s. y.to * s + x.to) (sym is.along) in
    let r : a.p + j * a.along + 0 ≡ (y.to + j) * (16 * row_words f.width) + (x.to + 0) = row_place a.p x.to y.to 0 a.along j 0 q ∙ ap (λ s. (y.to + j) * s + (x.to + 0)) is.along in
    let m : f.height * (16 * row_words f.width) ≡ 16 * (f.height * row_words f.width) = moved f.height (row_words f.width) in
    omega (arith, enough, b, r, m, u, w, is.n)

module _ (old new : View) (b : BitBlt) (x y : Span) (a : Layout) (pen : Pen) (plan : IsPlan old b x y a pen) (read : IsBitBlt old.objects b) where
  abbrev copy : Copy
  copy = copy_in old.objects b

  abbrev dest : Value
  dest = word b.destination.bits

  abbrev row : ℕ
  row = row_words b.destination.width

  column_copied : (i : ℕ) → i < x.count → copies_to copy.across copy.destination.width (option_map (λ (f : ModelForm). f.width) copy.source) (x.to + i) ≡ true
  column_copied i h = rw (widths old b.source) (plan.across.takes i h)

  row_copied : (j : ℕ) → j < y.count → copies_to copy.down copy.destination.height (option_map (λ (f : ModelForm). f.height) copy.source) (y.to + j) ≡ true
  row_copied j h = rw (heights old b.source) (plan.down.takes j h)

  column_within : (i : ℕ) → i < x.count → x.to + i < 16 * row
  column_within i h =
      let e = plan.across.to_end (omega arith) in
      let w : b.destination.width ≤ 16 * row = omega arith in
      omega (arith, e, w)

  copied_lines : (u v : ℕ) → is_copied copy u v ≡ true → ((x.to ≤ u) × (u < x.to + x.count)) × ((y.to ≤ v) × (v < y.to + y.count))
  copied_lines u v e =
      let p = and_parts (copies_to copy.across copy.destination.width (option_map (λ (f : ModelForm). f.width) copy.source) u) _ e in
      (plan.across.all u (rw (widths old b.source) at p.0), plan.down.all v (rw (heights old b.source) at p.1))

  pub place_in : (i j : ℕ) → a.p + j * a.along + i ≡ (y.to + j) * (16 * row) + (x.to + i)
  place_in i j =
      let e : a.p ≡ y.to * a.along + x.to = plan.layout.p ∙ ap (λ s. y.to * s + x.to) (sym plan.layout.along) in
      row_place a.p x.to y.to 0 a.along j i e ∙ ap (λ s. (y.to + j) * s + (x.to + i)) plan.layout.along

  source_place : (i j : ℕ) → a.q + j * a.across + i ≡ (y.from + j) * (16 * source_words b.source) + (x.from + i)
  source_place i j =
      let e : a.q ≡ y.from * a.across + x.from = plan.layout.q ∙ ap (λ s. y.from * s + x.from) (sym plan.layout.across) in
      row_place a.q x.from y.from 0 a.across j i e ∙ ap (λ s. (y.from + j) * s + (x.from + i)) plan.layout.across

  shaded_is : (i j : ℕ) → i < x.count → j < y.count → shaded (tone_of pen j) (bits_of b.source) old (a.p + j * a.along) (a.q + j * a.across) i
      ≡ min (source_pixel copy.source (line_from copy.across (x.to + i)) (line_from copy.down (y.to + j))) (halftone_pixel copy.halftone (x.to + i) (y.to + j))
  shaded_is i j hi hj =
      let s = source_is old b.source (line_from copy.across (x.to + i)) (line_from copy.down (y.to + j)) (x.from + i) (y.from + j) (a.q + j * a.across + i)
      (λ n e. (plan.across.from n i e hi).0) (λ n e. (plan.down.from n j e hj).0) (source_place i j) in
      let m : (y.to + j) * (16 * row) ≡ 16 * ((y.to + j) * row) = moved (y.to + j) row in
      let p = place_in i j in
      let e : (a.p + j * a.along + i) % 16 ≡ (x.to + i) % 16 = omega (arith, m, p) in
      let f : (pen.first + j) % 16 ≡ (y.to + j) % 16 = ap (λ z. (z + j) % 16) plan.first in
      let t : tone_of pen j ≡ tone_at old b.halftone ((y.to + j) % 16) = ap (λ z. get_or pen.tones z 0) f ∙ plan.tones ((y.to + j) % 16) (omega arith) in
      let h = tone_is old b.halftone (tone_of pen j) (x.to + i) (y.to + j) t in
      ap (λ z. min z (bit_at (tone_of pen j) (15 - (a.p + j * a.along + i) % 16))) s
      ∙ ap (λ z. min (source_pixel copy.source (line_from copy.across (x.to + i)) (line_from copy.down (y.to + j))) (bit_at (tone_of pen j) (15 - z))) e
      ∙ ap (λ z. min (source_pixel copy.source (line_from copy.across (x.to + i)) (line_from copy.down (y.to + j))) z) h

  module _ (r : RowsCopied pen (bits_of b.source) dest old new a (λ j. j < a.height)) where
    pixel_in_row : (i j k : ℕ) → i < x.count → j < y.count → k ≡ a.p + j * a.along + i → pixel (words new dest) k ≡ formula copy (x.to + i) (y.to + j) (pixel (words old dest) k)
    pixel_in_row i j k hi hj e =
        let f = r.inside i j (omega (arith, plan.layout.n, hi)) (omega (arith, plan.layout.height, hj)) in
        ap (pixel (words new dest)) e ∙ f
        ∙ ap (λ z. combine z (shaded (tone_of pen j) (bits_of b.source) old (a.p + j * a.along) (a.q + j * a.across) i) (pixel (words old dest) (a.p + j * a.along + i))) plan.rule
        ∙ ap (λ z. combine b.rule z (pixel (words old dest) (a.p + j * a.along + i))) (shaded_is i j hi hj)
        ∙ ap (λ z. combine b.rule (min (source_pixel copy.source (line_from copy.across (x.to + i)) (line_from copy.down (y.to + j))) (halftone_pixel copy.halftone (x.to + i) (y.to + j))) (pixel (words old dest) z)) (sym e)

    copied_pixel : (k : ℕ) → is_copied copy (k % row_pixels copy) (k / row_pixels copy) ≡ true → pixel (words new dest) k ≡ painted_pixel copy k
    copied_pixel k e =
        let u = k % row_pixels copy in
        let v = k / row_pixels copy in
        let l = copied_lines u v e in
        let d : v * (16 * row) + u ≡ k = div-add-mod' k (16 * row) in
        let p = place_in (u - x.to) (v - y.to) in
        let eu : x.to + (u - x.to) ≡ u = omega (arith, l.0.0) in
        let ev : y.to + (v - y.to) ≡ v = omega (arith, l.1.0) in
        let q : a.p + (v - y.to) * a.along + (u - x.to) ≡ v * (16 * row) + u = rw (eu, ev) at p in
        let f = pixel_in_row (u - x.to) (v - y.to) k (omega (arith, l.0)) (omega (arith, l.1)) (sym d ∙ sym q) in
        let g : pixel (words new dest) k ≡ formula copy u v (pixel (words old dest) k) = rw (eu, ev) at f in
        g ∙ sym (after_copied copy u v (pixel (words old dest) k) e)

    outside_row : (k j : ℕ) → is_copied copy (k % row_pixels copy) (k / row_pixels copy) ≡ false → j < a.height → (i : ℕ) → i < a.n → k ≢ a.p + j * a.along + i
    outside_row k j e hj i hi q =
        let hx : i < x.count = omega (arith, plan.layout.n, hi) in
        let hy : j < y.count = omega (arith, plan.layout.height, hj) in
        let m = row_of row k (x.to + i) (y.to + j) (column_within i hx) (q ∙ place_in i j) in
        let c : is_copied copy (x.to + i) (y.to + j) ≡ true = and_from _ _ (column_copied i hx) (row_copied j hy) in
        let d : is_copied copy (k % row_pixels copy) (k / row_pixels copy) ≡ true = ap (λ z. is_copied copy z (k / row_pixels copy)) m.0 ∙ ap (is_copied copy (x.to + i)) m.1 ∙ c in
        cc

    beside_row : (k j : ℕ) → is_copied copy (k % row_pixels copy) (k / row_pixels copy) ≡ false → j < a.height → (k < a.p + j * a.along) ⊎ (a.p + j * a.along + a.n ≤ k)
    beside_row k j e hj =
        elim (cases_order k (a.p + j * a.along)) [
          | inl q ↦ aside (omega arith)
          | inr s ↦ elim s [ inl lt ↦ inl lt | inr gt ↦ aside (omega arith) ]
        ]
      where
        aside : a.p + j * a.along ≤ k → (k < a.p + j * a.along) ⊎ (a.p + j * a.along + a.n ≤ k)
        aside ge = elim (cases_order k (a.p + j * a.along + a.n)) [
          | inl q ↦ inr (omega arith)
          | inr t ↦ elim t [ inl lt ↦ absurd (outside_row k j e hj (k - (a.p + j * a.along)) (omega arith) (omega arith)) | inr gt ↦ inr (omega arith) ]
        ]

    each_pixel : (k : ℕ) → pixel (words new dest) k ≡ painted_pixel copy k
    each_pixel k = elim (bool_cases (is_copied copy (k % row_pixels copy) (k / row_pixels copy))) [
      | inl e ↦ copied_pixel k e
      | inr e ↦ r.outside k (λ j hj. beside_row k j e hj) ∙ sym (after_left copy _ _ (pixel (words old dest) k) e)
    ]

    pub rows_painted : AllFit (words old dest) → new ≡ with_words old dest (painted copy)
    rows_painted fit =
        r.rest ∙ ap (with_words old dest) (painted-alone copy (words new dest) (r.size dest) (r.fits fit) (λ k h. each_pixel k))

-- where no column is copied to, the painted words are the old ones
pub nothing_painted : (old : View) (b : BitBlt) (x : Span) → IsSpan (axis_of b.across) b.destination.width (width_of b.source) x → x.count ≡ 0 → HasWords old (word b.destination.bits) → AllFit (words old (word b.destination.bits))
    → old ≡ with_words old (word b.destination.bits) (painted (copy_in old.objects b))
nothing_painted old b x span none has fit =
    words_same old (word b.destination.bits) has.live
    ∙ ap (with_words old (word b.destination.bits)) (painted-alone c (words old (word b.destination.bits)) refl fit (λ k h. sym (after_left c _ _ (pixel (words old (word b.destination.bits)) k) (not_copied (k % row_pixels c) (k / row_pixels c)))))
  where
    c : Copy
    c = copy_in old.objects b

    not_copied : (u v : ℕ) → is_copied c u v ≡ false
    not_copied u v = elim (bool_cases (is_copied c u v)) [
      | inl e ↦
          let p = and_parts (copies_to c.across c.destination.width (option_map (λ (f : ModelForm). f.width) c.source) u) _ e in
          let l = span.all u (rw (widths old b.source) at p.0) in
          absurd (omega (arith, l, none))
      | inr e ↦ e
    ]
