-- Pixels, the bits of a Form's words, and what a rule makes of two of them (chapter 18).
use Rattle.std.specs.Prelude.{ℕ, zero, suc, ◌+◌, ◌-◌, ◌*◌, ◌/◌, ◌%◌, ◌^◌, ◌<◌, List, slice_index}
use Rattle.std.specs.Int.{bit_at}

-- The pixel at a place, counted from 0: the highest bit of the first word is the first. Behind the last word each pixel is 0.
unfoldable pub pixel : List ℕ → ℕ → ℕ
pixel words p = bit_at (slice_index words (p / 16)) (15 - p % 16)

-- What a rule makes of a source's pixel s and a destination's pixel d: 1 exactly where it contains the weight of the two, which
-- is 1 for (1, 1), 2 for (1, 0), 4 for (0, 1) and 8 for (0, 0).
abbrev pub combine : ℕ → ℕ → ℕ → ℕ
combine rule s d = bit_at rule (3 - (2 * s + d))

-- the number of n bits, of which f 0 is the highest
unfoldable pub number_by : ℕ → (ℕ → ℕ) → ℕ
number_by zero f = 0
number_by (suc n) f = number_by n f * 2 + f n

-- how many words a row of so many pixels has
abbrev pub row_words : ℕ → ℕ
row_words width = (width + 15) / 16

-- the place of pixel x, from the left, of row y, from the top, where each row has so many words
abbrev pub pixel_place : ℕ → ℕ → ℕ → ℕ
pixel_place words x y = y * (16 * words) + x

-- all words are of 16 bits
abbrev pub AllFit : List ℕ → Type 0
AllFit words = (k : ℕ) → slice_index words k < 2 ^ 16
