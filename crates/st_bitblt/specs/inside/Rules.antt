-- A rule by four words.
use Rattle.std.specs.Prelude.{◌≡◌, ℕ, ◌+◌, ◌*◌, ◌<◌}
use Rattle.std.specs.Int.{bit_at}

-- all bits of a word are the same
abbrev pub IsSpread : ℕ → Type 0
IsSpread w = (j : ℕ) → j < 16 → bit_at w j ≡ bit_at w 0

-- each of a rule's four words is of ones or of zeros
abbrev pub AreSpread : ℕ → ℕ → ℕ → ℕ → Type 0
AreSpread both source_alone dest_alone neither = IsSpread both × IsSpread source_alone × IsSpread dest_alone × IsSpread neither

-- the number of the rule that makes a 1 of two ones, of a source's one alone, of a destination's one alone, and of two zeros
-- where these words are of ones
abbrev pub number_of_words : ℕ → ℕ → ℕ → ℕ → ℕ
number_of_words both source_alone dest_alone neither = bit_at both 0 + 2 * bit_at source_alone 0 + 4 * bit_at dest_alone 0 + 8 * bit_at neither 0
