-- An index as contracts see it.
use Rattle.std.specs.Prelude.{◌≡◌, ℕ, ◌<◌, ◌&&◌, Bool, nat_eq, List, length, Option, Some, IsTrue, Vec, bytes_eq, position, if◌then◌else◌}
use Rattle.std.specs.Global.{Global}
use Rattle.std.specs.Bool.{beq}
use Rattle.std.specs.List.{list_any}
use Rattle.std.specs.Option.{option_and_then}
use Rattle.std.specs.Map.{lookup}

-- Names, each of which has its place as its number; the last definition's number by the number of a class, the side of it and
-- the number of a selector; and for how many more of these there is room.
pub record IndexState : Type 0 where
  pub names : List (Vec ℕ Global)
  pub last : List ((ℕ × Bool × ℕ) × ℕ)
  pub room : ℕ

abbrev pub number : List (Vec ℕ Global) → List ℕ → Option ℕ
number names name = position (λ k. bytes_eq name k.items) names

abbrev pub same_key : ℕ × Bool × ℕ → ℕ × Bool × ℕ → Bool
same_key x y = (nat_eq x.0 y.0 && beq x.1 y.1) && nat_eq x.2 y.2

-- the number of the last definition of a class, a side of it and a selector
abbrev pub found : IndexState → List ℕ → Bool → List ℕ → Option ℕ
found x class meta selector =
    option_and_then (λ i. option_and_then (λ j. lookup (same_key (i, meta, j)) x.last) (number x.names selector)) (number x.names class)

abbrev pub HasName : IndexState → List ℕ → Type 0
HasName x name = IsTrue (list_any (λ k. bytes_eq name k.items) x.names)

-- each number by which one is found is that of a name
abbrev pub IsBounded : List (Vec ℕ Global) → List ((ℕ × Bool × ℕ) × ℕ) → Type 0
IsBounded names last = (i : ℕ) (m : Bool) (j : ℕ) (v : ℕ) → lookup (same_key (i, m, j)) last ≡ Some v → (i < length names) × (j < length names)

-- what is found, where one number was noted since
abbrev pub updated : (List ℕ → Bool → List ℕ → Option ℕ) → List ℕ → Bool → List ℕ → ℕ → List ℕ → Bool → List ℕ → Option ℕ
updated f class meta selector k c m s = if (bytes_eq c class && beq m meta) && bytes_eq s selector then Some k else f c m s
