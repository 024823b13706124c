-- What a copy of pixels asks, and what a memory is once pixels of an object were put down, whatever the order in which they were.
use Rattle.std.specs.Prelude.{◌≡◌, ◌≢◌, ℕ, ◌+◌, ◌*◌, ◌-◌, ◌%◌, ◌^◌, ◌<◌, ◌≤◌, ⊤, min, List, length, Option, Some, None}
use Rattle.std.specs.Int.{bit_at}
use Rattle.st_model.specs.Values.{Value, value}
use Rattle.st_model.specs.View.{View}
use Rattle.st_model.specs.Pixels.{AllFit, pixel, combine}
use Rattle.st_bitblt.specs.declared.source.Ends.{Ends}
use Rattle.st_bitblt.specs.declared.source.Places.{Places}
use Rattle.st_bitblt.specs.declared.source.Source.{Source}
use Rattle.st_bitblt.specs.declared.source.Source.TheVariants as source
use Rattle.st_bitblt.specs.inside.Words.{words, HasWords, with_words}

-- The n pixels of an object from place p on are what the rule makes of the old ones and of these bits. All else stays.
pub record Put (rule : ℕ) (dest : Value) (bits : ℕ → ℕ) (old new : View) (p n : ℕ) : Type 0 where
  pub inside : (i : ℕ) → i < n → pixel (words new dest) (p + i) ≡ combine rule (bits i) (pixel (words old dest) (p + i))
  pub below : (k : ℕ) → k < p → pixel (words new dest) k ≡ pixel (words old dest) k
  pub above : (k : ℕ) → p + n ≤ k → pixel (words new dest) k ≡ pixel (words old dest) k
  pub others : (o : Value) → o ≢ dest → words new o ≡ words old o
  pub size : (o : Value) → length (words new o) ≡ length (words old o)
  pub fits : AllFit (words old dest) → AllFit (words new dest)
  pub there : (o : Value) → HasWords old o → HasWords new o
  pub rest : new ≡ with_words old dest (words new dest)

-- the object of a source, if any
abbrev pub object_of_source : Source → Option Value
object_of_source source.Ones = None
object_of_source (source.Words object length) = Some (value object)

-- the pixel at place q of an object; 1 where there is none
abbrev pub pixel_from : View → Option Value → ℕ → ℕ
pixel_from v None q = 1
pixel_from v (Some o) q = pixel (words v o) q

-- a source's object is there, and has so many words
abbrev pub HasSource : View → Source → Type 0
HasSource v source.Ones = ⊤
HasSource v (source.Words object n) = HasWords v (value object) × (n ≡ length (words v (value object)))

-- Pixels can be copied: the buffers have 129 words for those of the source and 128 for those of the destination, both ends have
-- their words, the pixels lie within the destination, and all places are numbers of 32 bits, in the source with a word to spare.
pub record CanCopy (v : View) (source_words dest_words : List ℕ) (ends : Ends) (a : Places) : Type 0 where
  pub buffers : (length source_words ≡ 129) × (length dest_words ≡ 128)
  pub source : HasSource v ends.source
  pub dest : HasWords v (value ends.dest)
  pub room : a.p + a.n ≤ 16 * length (words v (value ends.dest))
  pub p_fits : a.p + a.n < 2 ^ 32
  pub q_fits : a.q + a.n + 16 < 2 ^ 32

-- the source's pixels from q on, where they go to those from p on through a word of the halftone
abbrev pub shaded : ℕ → Option Value → View → ℕ → ℕ → ℕ → ℕ
shaded tone source v p q i = min (pixel_from v source (q + i)) (bit_at tone (15 - (p + i) % 16))

-- n pixels were copied from q on to those from p on
abbrev pub Copied : ℕ → ℕ → Option Value → Value → View → View → ℕ → ℕ → ℕ → Type 0
Copied rule tone source dest old new p q n = Put rule dest (shaded tone source old p q) old new p n
