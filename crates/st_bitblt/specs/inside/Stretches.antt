-- Stretches of the words of a row, with a word of the source before those that go to the destination's.
use Rattle.std.specs.Prelude.{◌≡◌, ◌≢◌, ℕ, ◌+◌, ◌-◌, ◌*◌, ◌/◌, ◌%◌, ◌<◌, ◌≤◌, min, List, Option, length}
use Rattle.std.specs.Int.{bit_at}
use Rattle.st_model.specs.View.{View}
use Rattle.st_model.specs.Values.{Value}
use Rattle.st_model.specs.Pixels.{pixel, combine}
use Rattle.st_bitblt.specs.inside.Copied.{pixel_from}

-- The n pixels from `first` on are what the rule makes of the old ones and of the source's, which stand `skip` behind, through a
-- word of the halftone. All others stay.
pub record Combined (rule tone : ℕ) (source : List ℕ) (skip : ℕ) (old new : List ℕ) (first n : ℕ) : Type 0 where
  pub inside : (k : ℕ) → first ≤ k → k < first + n → pixel new k ≡ combine rule (min (pixel source (skip + k)) (bit_at tone (15 - k % 16))) (pixel old k)
  pub below : (k : ℕ) → k < first → pixel new k ≡ pixel old k
  pub above : (k : ℕ) → first + n ≤ k → pixel new k ≡ pixel old k

-- of one word the pixels before `first` and those from first + n on are a word's, and all else stays
pub record Restored (word : ℕ) (old new : List ℕ) (at first n : ℕ) : Type 0 where
  pub inside : (i : ℕ) → first ≤ i → i < first + n → pixel new (16 * at + i) ≡ pixel old (16 * at + i)
  pub below : (i : ℕ) → i < first → pixel new (16 * at + i) ≡ bit_at word (15 - i)
  pub above : (i : ℕ) → first + n ≤ i → i < 16 → pixel new (16 * at + i) ≡ bit_at word (15 - i)
  pub others : (k : ℕ) → k / 16 ≢ at → pixel new k ≡ pixel old k

-- the words of a source from the one before place `at` on, whatever stands before its first one
abbrev pub IsStretch : View → Option Value → ℕ → List ℕ → Type 0
IsStretch v source at ws = (k : ℕ) → k < 16 * length ws → 16 ≤ 16 * at + k → pixel ws k ≡ pixel_from v source (16 * at + k - 16)
