-- Words of a region, and what stands there once words were moved or written.
use Rattle.std.specs.Prelude.{◌≡◌, ◌<◌, ℕ, suc, ◌+◌, ◌-◌, ◌*◌, ◌/◌, ◌%◌, ◌==◌, nat_lt, if◌then◌else◌, List, [], ◌∷◌, slice_index, slice_set}

-- the n words from `from` on have come to `to`, and all others stand
abbrev pub slid : (ℕ → ℕ) → ℕ → ℕ → ℕ → ℕ → ℕ
slid words from to n i = if nat_lt i to then words i else if nat_lt i (to + n) then words (from + (i - to)) else words i

-- these in the place of the words from one on
abbrev pub with_run : List ℕ → ℕ → List ℕ → List ℕ
with_run words at [] = words
with_run words at (w ∷ ws) = with_run (slice_set words at w) (suc at) ws

-- the upper half of a word for an even place, and the lower half for an odd one
abbrev pub byte_of : ℕ → ℕ → ℕ
byte_of w i = if i % 2 == 0 then w / 256 else w % 256

-- these are the n bytes from place i on, of which the words from another place on have two each
abbrev pub ReadsBytes : List ℕ → (at i n : ℕ) → List ℕ → Type 0
ReadsBytes words at i n bytes = (k : ℕ) → k < n → slice_index bytes k ≡ byte_of (slice_index words (at + (i + k) / 2)) (i + k)

-- a word with another byte in that half
abbrev pub with_byte : ℕ → ℕ → ℕ → ℕ
with_byte w i b = if i % 2 == 0 then b * 256 + w % 256 else w / 256 * 256 + b

-- these in the place of the bytes from place i on, of which the words from another place on have two each
abbrev pub with_bytes : List ℕ → ℕ → ℕ → List ℕ → List ℕ
with_bytes words at i [] = words
with_bytes words at i (b ∷ bs) = with_bytes (slice_set words (at + i / 2) (with_byte (slice_index words (at + i / 2)) i b)) at (suc i) bs
