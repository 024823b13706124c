-- Marks of names.
use Rattle.std.specs.Prelude.{◌≡◌, ◌==◌, ℕ, Bool, List}
use Rattle.st_model.specs.Objects.{page, place_of}
use Rattle.st_model.specs.Settled.{or, any_of_page, is_marked}

-- the new marks are the old ones and those of the names of which the test holds
abbrev pub AddsMarks : List Bool → List Bool → (ℕ → Bool) → Type 0
AddsMarks old new test = (n : ℕ) → is_marked new n ≡ or (test n) (is_marked old n)

-- the name is that of an object of the root page
abbrev pub is_of_page : ℕ → Bool
is_of_page n = any_of_page page (λ q. n == place_of q)
