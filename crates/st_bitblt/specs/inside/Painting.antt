-- How rows of pixels lie for what a BitBlt tells.
use Rattle.std.specs.Prelude.{◌≡◌, ℕ, ◌+◌, ◌*◌, Option, Some, None, slice_index}
use Rattle.st_model.specs.Values.{Value, word}
use Rattle.st_model.specs.View.{View}
use Rattle.st_model.specs.Pixels.{row_words}
use Rattle.st_bitblt.specs.declared.form.Form.{Form}
use Rattle.st_bitblt.specs.declared.rows.Layout.{Layout}
use Rattle.st_bitblt.specs.declared.span.Span.{Span}
use Rattle.st_bitblt.specs.inside.Words.{words}

-- the object with the pixels of a Form
abbrev pub bits_of : Option Form → Option Value
bits_of None = None
bits_of (Some f) = Some (word f.bits)

abbrev pub width_of : Option Form → Option ℕ
width_of None = None
width_of (Some f) = Some f.width

abbrev pub height_of : Option Form → Option ℕ
height_of None = None
height_of (Some f) = Some f.height

-- how many words a row of the source has; without a source so many that each line of 32768 pixels has room
abbrev pub source_words : Option Form → ℕ
source_words None = 2048
source_words (Some f) = row_words f.width

-- a word of the halftone; without one all are of ones
abbrev pub tone_at : View → Option Form → ℕ → ℕ
tone_at v None i = 65535
tone_at v (Some f) i = slice_index (words v (word f.bits)) i

-- The rows of these lines, where rows of the destination and of the source have so many words.
pub record IsLayoutOf (x y : Span) (dest_words source_words : ℕ) (a : Layout) : Type 0 where
  pub p : a.p ≡ y.to * (16 * dest_words) + x.to
  pub along : a.along ≡ 16 * dest_words
  pub q : a.q ≡ y.from * (16 * source_words) + x.from
  pub across : a.across ≡ 16 * source_words
  pub n : a.n ≡ x.count
  pub height : a.height ≡ y.count
