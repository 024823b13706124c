-- Bits in words of 64, and a summary of the words that are full.
use Rattle.std.specs.Prelude.{◌≡◌, ◌≢◌, ◌<◌, ◌+◌, ◌*◌, ◌/◌, ◌%◌, ◌^◌, ◌-◌, ℕ, List, length, slice_index}
use Rattle.std.specs.Int.{bit_at}

-- bit k of a list of words of 64 bits
abbrev pub bit : List ℕ → ℕ → ℕ
bit words k = bit_at (slice_index words (k / 64)) (k % 64)

-- bit j of the summary says that word j is full
pub record IsSummary (words full : List ℕ) : Type 0 where
  pub sizes : length words ≡ 64 * length full
  pub set : (j : ℕ) → j < length words → bit full j ≡ 1 → slice_index words j ≡ 2 ^ 64 - 1
  pub clear : (j : ℕ) → j < length words → bit full j ≡ 0 → slice_index words j + 1 < 2 ^ 64

-- place k is free, and every lower one is taken
pub record IsLeast (words : List ℕ) (k : ℕ) : Type 0 where
  pub free : bit words k ≡ 0
  pub lower : (i : ℕ) → i < k → bit words i ≡ 1

-- every word but the one at place k stands
abbrev pub SameOtherWords : List ℕ → List ℕ → ℕ → Type 0
SameOtherWords words words' k = (j : ℕ) → j ≢ k → slice_index words' j ≡ slice_index words j

-- There are as many words, and every bit but bit k stands; so does every word in which it isn't.
pub record SameOtherBits (ws ws' : List ℕ) (k : ℕ) : Type 0 where
  pub size : length ws' ≡ length ws
  pub others : (i : ℕ) → i ≢ k → bit ws' i ≡ bit ws i
  pub words : SameOtherWords ws ws' (k / 64)
