-- Rows of pixels, one below the other.
use Rattle.std.specs.Prelude.{◌≡◌, ◌≢◌, ℕ, ◌+◌, ◌*◌, ◌%◌, ◌^◌, ◌<◌, ◌≤◌, ◌⊎◌, length, slice_index, Option}
use Rattle.st_model.specs.Values.{Value}
use Rattle.st_model.specs.View.{View}
use Rattle.st_model.specs.Pixels.{AllFit, pixel, combine}
use Rattle.st_bitblt.specs.declared.rows.Pen.{Pen}
use Rattle.st_bitblt.specs.declared.rows.Layout.{Layout}
use Rattle.st_bitblt.specs.inside.Words.{words, HasWords, with_words}
use Rattle.st_bitblt.specs.inside.Copied.{shaded}

-- the word of the halftone for row j of a copy
abbrev pub tone_of : Pen → ℕ → ℕ
tone_of pen j = slice_index pen.tones ((pen.first + j) % 16)

-- each row lies within so many words
abbrev pub HasRoom : Layout → ℕ → Type 0
HasRoom a n = (j : ℕ) → j < a.height → a.p + j * a.along + a.n ≤ 16 * n

-- all places are numbers of 32 bits
pub record FitsPlaces (a : Layout) : Type 0 where
  pub p_fits : a.p + a.height * a.along + a.n < 2 ^ 32
  pub q_fits : a.q + a.height * a.across + a.n + 16 < 2 ^ 32

-- the source of a row does not begin before its destination
abbrev pub IsForward : Layout → ℕ → Type 0
IsForward a j = a.p + j * a.along ≤ a.q + j * a.across

-- the rows above row k that are copied from the top
abbrev pub FromTop : Layout → ℕ → ℕ → Type 0
FromTop a k = λ j. (j < k) × IsForward a j

-- The rows that were done are what the rule makes of the old pixels. All else stays.
pub record RowsCopied (pen : Pen) (source : Option Value) (dest : Value) (old new : View) (a : Layout) (done : ℕ → Type 0) : Type 0 where
  pub inside : (i j : ℕ) → i < a.n → done j
      → pixel (words new dest) (a.p + j * a.along + i) ≡ combine pen.rule (shaded (tone_of pen j) source old (a.p + j * a.along) (a.q + j * a.across) i) (pixel (words old dest) (a.p + j * a.along + i))
  pub outside : (k : ℕ) → ((j : ℕ) → done j → (k < a.p + j * a.along) ⊎ (a.p + j * a.along + a.n ≤ k)) → pixel (words new dest) k ≡ pixel (words old dest) k
  pub others : (o : Value) → o ≢ dest → words new o ≡ words old o
  pub size : (o : Value) → length (words new o) ≡ length (words old o)
  pub fits : AllFit (words old dest) → AllFit (words new dest)
  pub there : (o : Value) → HasWords old o → HasWords new o
  pub rest : new ≡ with_words old dest (words new dest)
