-- What a text's faults are to one another, and to a tree.
use Rattle.std.specs.Prelude.{◌≡◌, ℕ, List}
use Rattle.st_grammar.specs.inside.Meant.{HasFault}

-- its fault has one place and one cause
abbrev pub HasOneFault : List ℕ → Type 0
HasOneFault text = (place other cause reason : ℕ) → HasFault text place cause → HasFault text other reason → (place ≡ other) × (cause ≡ reason)

abbrev pub HasNoFault : List ℕ → Type 0
HasNoFault text = (place cause : ℕ) → HasFault text place cause → ⊥
