-- Where the bodies of objects stand, before and after a call.
use Rattle.std.specs.Prelude.{◌≡◌, ℕ, true}
use Rattle.st_model.specs.Values.{Value}
use Rattle.st_model.specs.Table.{Table}
use Rattle.st_model.specs.View.{is_live}

-- where an object stood, it stands
abbrev pub KeepsPlaces : (Value → ℕ → Type 0) → (Value → ℕ → Type 0) → Type 0
KeepsPlaces before after = (v : Value) (place : ℕ) → before v place → after v place

-- so do those that are still live
abbrev pub KeepsPlacesIn : Table → (Value → ℕ → Type 0) → (Value → ℕ → Type 0) → Type 0
KeepsPlacesIn t before after = (v : Value) (place : ℕ) → is_live t v ≡ true → before v place → after v place
