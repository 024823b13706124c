-- A message that is taken off a stack.
use Rattle.std.specs.Prelude.{◌≡◌, ◌≤◌, ℕ, List, ◌∷◌, ◌++◌, length, Option, Some, None}
use Rattle.st_meaning.specs.declared.deed.Value.{Value}

-- the receiver of a message, and its arguments
abbrev pub IsMessage : ℕ → (old : List Value) → Option (Value × List Value) → (new : List Value) → Type 0
IsMessage n old (Some m) new = (old ≡ new ++ m.0 ∷ m.1) × (length m.1 ≡ n)
IsMessage n old None new = length old ≤ n
