-- Counts of references (chapter 30), a number for each place that is counted.
use Rattle.std.specs.Prelude.{ℕ, ◌+◌, ◌-◌, ◌==◌, Bool, false, List, Option, Some, None, is_some, slice_index_or, slice_set, unwrap_or}

abbrev pub count_at : List (Option ℕ) → ℕ → Option ℕ
count_at cs k = slice_index_or cs k None

abbrev pub is_counted : List (Option ℕ) → ℕ → Bool
is_counted cs k = is_some (count_at cs k)

-- the count of a place that is counted
abbrev pub number_at : List (Option ℕ) → ℕ → ℕ
number_at cs k = unwrap_or (count_at cs k) 0

abbrev pub is_zero : Option ℕ → Bool
is_zero None = false
is_zero (Some n) = n == 0

-- a place is counted, and nothing refers to it
abbrev pub is_unused : List (Option ℕ) → ℕ → Bool
is_unused cs k = is_zero (count_at cs k)

-- so many references to a place more
abbrev pub raised : List (Option ℕ) → ℕ → ℕ → List (Option ℕ)
raised cs k by = slice_set cs k (Some (number_at cs k + by))

-- so many references to a place less
abbrev pub lowered : List (Option ℕ) → ℕ → ℕ → List (Option ℕ)
lowered cs k by = slice_set cs k (Some (number_at cs k - by))
