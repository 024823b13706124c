-- What a search for the first of something answers.
use Rattle.std.specs.Prelude.{◌≡◌, ℕ, ◌<◌, ◌≤◌, List, slice_index, Bool, nat_lt, ◌&&◌, if◌then◌else◌, true, false, Option, Some, None}

-- the least number below n that passes a test
abbrev pub IsFirst : (ℕ → Bool) → ℕ → Option ℕ → Type 0
IsFirst test n None = (k : ℕ) → k < n → test k ≡ false
IsFirst test n (Some k) = (k < n) × (test k ≡ true) × ((j : ℕ) → j < k → test j ≡ false)

-- the least number that passes a test
abbrev pub IsLeast : (ℕ → Bool) → Option ℕ → Type 0
IsLeast test None = (k : ℕ) → test k ≡ false
IsLeast test (Some k) = (test k ≡ true) × ((j : ℕ) → j < k → test j ≡ false)

-- the least k below n, and with it the least i, that pass a test
abbrev pub IsFirstPair : (ℕ → ℕ → Bool) → ℕ → Option (ℕ × ℕ) → Type 0
IsFirstPair test n None = (k i : ℕ) → k < n → test k i ≡ false
IsFirstPair test n (Some found) = (found.0 < n) × (test found.0 found.1 ≡ true)
    × ((k i : ℕ) → k < found.0 → test k i ≡ false) × ((i : ℕ) → i < found.1 → test found.0 i ≡ false)

-- of the first n numbers of a list the least one that passes a test
abbrev pub IsLeastAmong : (ℕ → Bool) → List ℕ → ℕ → Option ℕ → Type 0
IsLeastAmong test xs n None = (j : ℕ) → j < n → test (slice_index xs j) ≡ false
IsLeastAmong test xs n (Some p) = ((j : ℕ) × (j < n) × (slice_index xs j ≡ p)) × (test p ≡ true)
    × ((j : ℕ) → j < n → test (slice_index xs j) ≡ true → p ≤ slice_index xs j)

-- the lesser of one that passed, or none, and one more, where that passes
abbrev pub IsLesser : (ℕ → Bool) → Option ℕ → ℕ → Option ℕ → Type 0
IsLesser test None p result = result ≡ (if test p then Some p else None)
IsLesser test (Some q) p result = result ≡ (if nat_lt p q && test p then Some p else Some q)
