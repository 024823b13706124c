-- What a store's image and definitions come to: the definitions are installed again, in order.
use Rattle.std.specs.Prelude.{ℕ, suc, List, [], ◌∷◌}
use Rattle.st_model.specs.Machine.{State}
use Rattle.st_model.specs.Births.{Births}
use Rattle.st_chunk.specs.Definitions.{Definition}
use Rattle.st_protocol.specs.declared.refusal.Refusal.{Refusal}
use Rattle.st_protocol.specs.Installing.{Install, Installed, Refused, Accepted}

-- a definition that wasn't installed again: its number in the changes file, counted from 1, and why
pub record Loss : Type 0 where
  pub number : ℕ
  pub why : Refusal

-- the state, how many definitions were installed again, and those that were lost
pub record Replayed : Type 0 where
  pub state : State Births
  pub count : ℕ
  pub lost : List Loss

-- one definition, of which this comes, and then the others
abbrev pub replay_one : ℕ → State Births → Installed → (State Births → Replayed) → Replayed
replay_one n s (Refused why) next = record (next s) { lost = record { number = n; why = why } ∷ (next s).lost }
replay_one n s (Accepted selector t) next = record (next t) { count = suc (next t).count }

-- definitions in order, behind so many in the changes file: each is installed, or lost
unfoldable pub replay : Install → State Births → ℕ → List Definition → Replayed
replay install s n [] = record { state = s; count = 0; lost = [] }
replay install s n (d ∷ ds) = replay_one (suc n) s (install d s) (λ t. replay install t (suc n) ds)
