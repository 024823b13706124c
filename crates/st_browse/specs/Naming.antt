-- Names, and what each names, in the order of their bytes.
use Rattle.std.specs.Prelude.{ℕ, List, [], ◌∷◌, Option, Some, None, Bool, bytes_eq, if◌then◌else◌}
use Rattle.std.specs.declared.cmp.Ordering.{Ordering}
use Rattle.std.specs.declared.cmp.Ordering.TheVariants.{Less, Equal, Greater}
use Rattle.std.specs.Ordering.{is_lt, nat_cmp}
use Rattle.std.specs.Cmp.Lexicographic.{slice_cmp}
use Rattle.st_model.specs.Values.{Value}

-- a name, and what it names
pub record Named : Type 0 where
  pub name : List ℕ
  pub value : Value

-- how the first text stands to the second by their bytes
abbrev pub compared : List ℕ → List ℕ → Ordering
compared a b = slice_cmp nat_cmp a b

-- the second text stands behind the first
abbrev pub is_behind : List ℕ → List ℕ → Bool
is_behind a b = is_lt (compared a b)

-- beside the first of names in order, and those behind it, with x among these already
abbrev pub placed_beside : Ordering → Named → Named → (ys with_x : List Named) → List Named
placed_beside Less x y ys with_x = x ∷ y ∷ ys
placed_beside Equal x y ys with_x = x ∷ ys
placed_beside Greater x y ys with_x = y ∷ with_x

-- x in its place among names in order; it takes the place of one of its name
abbrev pub placed : Named → List Named → List Named
placed x [] = x ∷ []
placed x (y ∷ ys) = placed_beside (compared x.name y.name) x y ys (placed x ys)

-- in the order of the bytes, each name once, with what it names first
abbrev pub in_order : List Named → List Named
in_order [] = []
in_order (x ∷ xs) = placed x (in_order xs)

-- the first of this name
abbrev pub first_named : List ℕ → List Named → Option Named
first_named text [] = None
first_named text (x ∷ xs) = if bytes_eq x.name text then Some x else first_named text xs
