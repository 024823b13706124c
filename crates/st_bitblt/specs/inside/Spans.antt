-- The lines of a copy in one direction.
use Rattle.std.specs.Prelude.{◌≡◌, ℕ, ◌+◌, ◌<◌, ◌≤◌, true, Option, Some, pos}
use Rattle.st_model.specs.BitBlt.{Axis, copies_to, line_from}
use Rattle.st_bitblt.specs.declared.span.Lines.{Lines}
use Rattle.st_bitblt.specs.declared.span.Span.{Span}

-- line s of the source is copied to line d of the destination; to the first lines 16384 was added
pub record Takes (a : Lines) (d s : ℕ) : Type 0 where
  pub low : a.to ≤ d + 16384
  pub high : d + 16384 < a.to + a.count
  pub clip_low : a.clip ≤ d + 16384
  pub clip_high : d + 16384 < a.clip + a.clip_count
  pub within : d < a.lines
  pub from : s + a.to ≡ a.from + d
  pub source : s < a.source_lines

pub record IsSmall (a : Lines) : Type 0 where
  pub to : a.to < 32768
  pub count : a.count < 32768
  pub from : a.from < 32768
  pub clip : a.clip < 32768
  pub clip_count : a.clip_count < 32768
  pub lines : a.lines < 32768
  pub source_lines : a.source_lines < 32769

-- the lines that are taken are those of a span
pub record IsClipped (a : Lines) (r : Span) : Type 0 where
  pub takes : (k : ℕ) → k < r.count → Takes a (r.to + k) (r.from + k)
  pub all : (d s : ℕ) → Takes a d s → (r.to ≤ d) × (d < r.to + r.count)
  pub to_fits : r.to < 65536
  pub from_fits : r.from < 65536
  pub count_fits : r.count < 32768

-- Lines are copied exactly to those of a span, from those of the source that stand as far after its first line there.
pub record IsSpan (a : Axis) (lines : ℕ) (source_lines : Option ℕ) (r : Span) : Type 0 where
  pub takes : (k : ℕ) → k < r.count → copies_to a lines source_lines (r.to + k) ≡ true
  pub from : (n k : ℕ) → source_lines ≡ Some n → k < r.count → (line_from a (r.to + k) ≡ pos (r.from + k)) × (r.from + k < n)
  pub all : (d : ℕ) → copies_to a lines source_lines d ≡ true → (r.to ≤ d) × (d < r.to + r.count)
  pub to_end : 0 < r.count → r.to + r.count ≤ lines
  pub from_end : 0 < r.count → r.from + r.count ≤ 32768
  pub to_fits : r.to < 65536
  pub from_fits : r.from < 65536
  pub count_fits : r.count < 32768
