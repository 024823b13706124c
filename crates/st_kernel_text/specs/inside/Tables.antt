-- Tables of words, each with a value.
use Rattle.std.specs.Prelude.{ℕ, List, map}
use Rattle.std.specs.Borrow.{Bor}

-- such a table in the code
abbrev pub table_now : {A : Type 0} → List (Bor (List ℕ) × A) → List (List ℕ × A)
table_now rows = map (λ r. (r.0.now, r.1)) rows
