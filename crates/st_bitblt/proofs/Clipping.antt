-- Clipping by integers is clipping by the numbers that are 16384 more.
use Rattle.std.proofs.Common.{◌≡◌, ℕ, ◌+◌, ◌-◌, ◌<◌, true, Option, Some, None, refl, arith}
use Rattle.std.specs.Prelude.{ℤ, pos, negsuc, ◌+ℤ◌, ◌<ℤ◌, ◌≤ℤ◌, int_le, int_lt, nat_lt}
use Rattle.std.proofs.lemmas.Int.{ints}
use Rattle.std.proofs.lemmas.Bool.Decides.{nat_tests}
use Rattle.st_model.specs.BitBlt.{Axis, copies_to, has_line, is_among, line_from}
use Rattle.st_bitblt.specs.declared.direction.Direction.{Direction}
use Rattle.st_bitblt.specs.declared.span.Lines.{Lines}
use Rattle.st_bitblt.specs.declared.span.Span.{Span}
use Rattle.st_bitblt.specs.inside.Reading.{axis_of}
use Rattle.st_bitblt.specs.inside.Spans.{Takes, IsClipped, IsSpan}
use Rattle.std.proofs.lemmas.Bool.{and_parts, and_from}
use Rattle.st_model.proofs.IntegerTests.{le_true, lt_true}

true_le : (a b : ℤ) → int_le a b ≡ true → a ≤ℤ b
true_le (pos a) (pos b) e = grind (arith, ints, e)
true_le (pos a) (negsuc b) e = grind (arith, ints, e)
true_le (negsuc a) (pos b) e = grind (arith, ints, e)
true_le (negsuc a) (negsuc b) e = grind (arith, ints, e)

true_lt : (a b : ℤ) → int_lt a b ≡ true → a <ℤ b
true_lt (pos a) (pos b) e = grind (arith, ints, e)
true_lt (pos a) (negsuc b) e = grind (arith, ints, e)
true_lt (negsuc a) (pos b) e = grind (arith, ints, e)
true_lt (negsuc a) (negsuc b) e = grind (arith, ints, e)

-- what is copied to, in the order of integers
record Copies (a : Axis) (lines : ℕ) (source_lines : Option ℕ) (d : ℕ) : Type 0 where
  within : d < lines
  low : a.to ≤ℤ pos d
  high : pos d <ℤ (a.to +ℤ a.count)
  clip_low : a.clip ≤ℤ pos d
  clip_high : pos d <ℤ (a.clip +ℤ a.clip_count)
  source : has_line source_lines (line_from a d) ≡ true

copies_when : (a : Axis) (lines : ℕ) (source_lines : Option ℕ) (d : ℕ) → Copies a lines source_lines d → copies_to a lines source_lines d ≡ true
unfolding copies_to
copies_when a lines source_lines d c =
    and_from _ _ (grind (arith, nat_tests, c.within))
    (and_from _ _ (and_from _ _ (le_true a.to (pos d) c.low) (lt_true (pos d) (a.to +ℤ a.count) c.high))
    (and_from _ _ (and_from _ _ (le_true a.clip (pos d) c.clip_low) (lt_true (pos d) (a.clip +ℤ a.clip_count) c.clip_high)) c.source))

copies_then : (a : Axis) (lines : ℕ) (source_lines : Option ℕ) (d : ℕ) → copies_to a lines source_lines d ≡ true → Copies a lines source_lines d
unfolding copies_to
copies_then a lines source_lines d e =
    let p = and_parts (nat_lt d lines) _ e in
    let q = and_parts (is_among a.to a.count (pos d)) _ p.1 in
    let r = and_parts (is_among a.clip a.clip_count (pos d)) _ q.1 in
    let x = and_parts (int_le a.to (pos d)) _ q.0 in
    let y = and_parts (int_le a.clip (pos d)) _ r.0 in
    record {
      within = grind (arith, nat_tests, p.0);
      low = true_le a.to (pos d) x.0;
      high = true_lt (pos d) (a.to +ℤ a.count) x.1;
      clip_low = true_le a.clip (pos d) y.0;
      clip_high = true_lt (pos d) (a.clip +ℤ a.clip_count) y.1;
      source = r.1;
    }

module _ (d : Direction) (lines : ℕ) where
  abbrev lines_from : ℕ → ℕ → Lines
  lines_from from source_lines = record { to = d.to; count = d.count - 16384; from = from; clip = d.clip; clip_count = d.clip_count - 16384; lines = lines; source_lines = source_lines }

  source_taken : (n k s : ℕ) → Takes (lines_from d.from n) k s → line_from (axis_of d) k ≡ pos s
  source_taken n k s t = omega (arith, ints, t.from)

  taken : (from n k s : ℕ) (source_lines : Option ℕ) → Takes (lines_from from n) k s → has_line source_lines (line_from (axis_of d) k) ≡ true → Copies (axis_of d) lines source_lines k
  taken from n k s source_lines t h = record {
    within = t.within;
    low = omega (arith, ints, t.low);
    high = omega (arith, ints, t.high);
    clip_low = omega (arith, ints, t.clip_low);
    clip_high = omega (arith, ints, t.clip_high);
    source = h;
  }

  source_line : (n k s : ℕ) → Takes (lines_from d.from n) k s → has_line (Some n) (line_from (axis_of d) k) ≡ true
  source_line n k s t =
      let e = source_taken n k s t in
      rw e (and_from _ _ (le_true (pos 0) (pos s) (omega (arith, ints))) (lt_true (pos s) (pos 0 +ℤ pos n) (omega (arith, ints, t.source))))

  taken_by : (from n k s : ℕ) (source_lines : Option ℕ) → Copies (axis_of d) lines source_lines k → s + d.to ≡ from + k → s < n → Takes (lines_from from n) k s
  taken_by from n k s source_lines c at source = record {
    low = omega (arith, ints, c.low);
    high = omega (arith, ints, c.high);
    clip_low = omega (arith, ints, c.clip_low);
    clip_high = omega (arith, ints, c.clip_high);
    within = c.within;
    from = at;
    source = source;
  }

  from_source : (n k : ℕ) → Copies (axis_of d) lines (Some n) k → (s : ℕ) × Takes (lines_from d.from n) k s
  from_source n k c =
      let p = and_parts (int_le (pos 0) (line_from (axis_of d) k)) _ c.source in
      let low = true_le (pos 0) (line_from (axis_of d) k) p.0 in
      let high = true_lt (line_from (axis_of d) k) (pos 0 +ℤ pos n) p.1 in
      (d.from + k - d.to, taken_by d.from n k (d.from + k - d.to) (Some n) c (omega (arith, ints, low)) (omega (arith, ints, low, high)))

  from_ones : (k : ℕ) → lines < 16384 → d.to < 32768 → Copies (axis_of d) lines None k → (s : ℕ) × Takes (lines_from 16384 32768) k s
  from_ones k small to c = (16384 + k - d.to, taken_by 16384 32768 k (16384 + k - d.to) None c (omega (arith, ints, c.low)) (omega (arith, ints, c.low, c.within)))

  module _ (r : Span) where
    pub span_of : (n : ℕ) → n < 16384 → IsClipped (lines_from d.from n) r → IsSpan (axis_of d) lines (Some n) r
    span_of n small c = record {
      takes = λ k h. let t = c.takes k h in copies_when (axis_of d) lines (Some n) (r.to + k) (taken d.from n (r.to + k) (r.from + k) (Some n) t (source_line n (r.to + k) (r.from + k) t));
      from = λ m k e h. let t = c.takes k h in let q : n ≡ m = same n m e in (source_taken n (r.to + k) (r.from + k) t, omega (arith, t.source));
      all = λ k e. let t = from_source n k (copies_then (axis_of d) lines (Some n) k e) in c.all k t.0 t.1;
      to_end = λ p. let t = c.takes (r.count - 1) (omega arith) in omega (arith, t.within);
      from_end = λ p. let t = c.takes (r.count - 1) (omega arith) in omega (arith, t.source);
      to_fits = c.to_fits;
      from_fits = c.from_fits;
      count_fits = c.count_fits;
    }
      where
        same : (n m : ℕ) → Some n ≡ Some m → n ≡ m
        same n m e = cc

    pub span_alone : lines < 16384 → d.to < 32768 → IsClipped (lines_from 16384 32768) r → IsSpan (axis_of d) lines None r
    span_alone small to c = record {
      takes = λ k h. let t = c.takes k h in copies_when (axis_of d) lines None (r.to + k) (taken 16384 32768 (r.to + k) (r.from + k) None t refl);
      from = λ m k e h. cc;
      all = λ k e. let t = from_ones k small to (copies_then (axis_of d) lines None k e) in c.all k t.0 t.1;
      to_end = λ p. let t = c.takes (r.count - 1) (omega arith) in omega (arith, t.within);
      from_end = λ p. let t = c.takes (r.count - 1) (omega arith) in omega (arith, t.source);
      to_fits = c.to_fits;
      from_fits = c.from_fits;
      count_fits = c.count_fits;
    }
