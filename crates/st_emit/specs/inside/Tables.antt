-- Tables of texts, each with a value.
use Rattle.std.specs.Prelude.{ℕ, List, [], ◌∷◌, map, if◌then◌else◌, bytes_eq}
use Rattle.std.specs.Borrow.{Bor}

-- such a table in the code
abbrev pub table_now : {A : Type 0} → List (Bor (List ℕ) × A) → List (List ℕ × A)
table_now rows = map (λ r. (r.0.now, r.1)) rows

-- the value of the first row with this text
abbrev pub value_or : {A : Type 0} → List (List ℕ × A) → List ℕ → A → A
value_or [] text otherwise = otherwise
value_or (r ∷ rows) text otherwise = if bytes_eq text r.0 then r.1 else value_or rows text otherwise
