-- What calls tell of the steps that plan an installation. Where there was no memory they tell nothing.
use Rattle.std.specs.Prelude.{◌≡◌, ℕ, List, [], ◌∷◌, ◌++◌, Result, Ok, Err, ⊤}
use Rattle.std.specs.Global.{Vec}
use Rattle.st_model.specs.Machine.{State, Died, Went, Step}
use Rattle.st_model.specs.Table.{Table, table}
use Rattle.st_model.specs.Values.{value}
use Rattle.st_scope.specs.declared.unread.Unread.{Unread}
use Rattle.st_scope.specs.declared.unread.Unread.TheVariants.{Dies, OutOfMemory}
use Rattle.st_install.specs.declared.plan.PlannedValue.{PlannedValue as CodePart}
use Rattle.st_install.specs.declared.plan.NewObject.{NewObject as CodeObject}
use Rattle.st_install.specs.declared.single.Single.{Single}
use Rattle.st_install.specs.declared.single.Single.TheVariants as single
use Rattle.st_install.specs.declared.plan.Owner.{Owner}
use Rattle.st_install.specs.Plans.{NewObject}
use Rattle.st_install.specs.Symbols.{NamedSymbol}
use Rattle.st_emit.specs.declared.literal.Literal.{Literal}
use Rattle.st_emit.specs.Literals.{array}
use Rattle.st_emit.specs.inside.Views.{literal_view, literals_view, members_view}
use Rattle.st_install.specs.Literals.{Placed, PlacedAll, as_it_is, made_as, place_owner, place_literal, place_literals}
use Rattle.st_install.specs.inside.Readies.{part_of, parts_of, object_of, objects_of}

-- LITERALS

-- a literal that is a value, or one object, which is made with this number
abbrev pub single_placed : ℕ → Single → Placed
single_placed next (single.Value p) = as_it_is (part_of p)
single_placed next (single.Object o) = made_as next (object_of o)

-- a literal is such a one, whatever its number
abbrev pub IsSingle : (ℕ → Step Table Placed) → Table → Single → Type 0
IsSingle m t x = (next : ℕ) (s : State Table) → s.memory ≡ t → (m next).run s ≡ Went (single_placed next x) s

-- of what it dies, whatever its number
abbrev pub TellsSingle : (ℕ → Step Table Placed) → Table → Result Single Unread → Type 0
TellsSingle m t (Ok x) = IsSingle m t x
TellsSingle m t (Err (Dies k)) = (next : ℕ) (s : State Table) → s.memory ≡ t → (m next).run s ≡ Died k
TellsSingle m t (Err OutOfMemory) = ⊤

-- a literal that is a value
abbrev pub part_placed : CodePart → Placed
part_placed p = as_it_is (part_of p)

-- the owner of a method
abbrev pub owner_step : Owner → ℕ → Step Table Placed
owner_step o = place_owner table (value o.association) (value o.class) o.meta

-- Symbols by their texts, as a map has them
abbrev pub named_of : List (Vec ℕ × CodePart) → List NamedSymbol
named_of [] = []
named_of (e ∷ es) = record { text = e.0.items; part = part_of e.1 } ∷ named_of es

-- a literal is placed: it is this part, and what is made for it stands behind the old objects
pub record IsPlaced (m : Step Table Placed) (t : Table) (old new : List CodeObject) (part : CodePart) : Type 0 where
  pub added : List NewObject
  pub behind : objects_of new ≡ objects_of old ++ added
  pub tells : (s : State Table) → s.memory ≡ t → m.run s ≡ Went (record { part = part_of part; objects = added }) s

abbrev pub Places : Step Table Placed → Table → (old new : List CodeObject) → Result CodePart Unread → Type 0
Places m t old new (Ok p) = IsPlaced m t old new p
Places m t old new (Err (Dies k)) = (s : State Table) → s.memory ≡ t → m.run s ≡ Died k
Places m t old new (Err OutOfMemory) = ⊤

-- literals are placed, one after the other
pub record ArePlaced (m : Step Table PlacedAll) (t : Table) (old new : List CodeObject) (parts : List CodePart) : Type 0 where
  pub added : List NewObject
  pub behind : objects_of new ≡ objects_of old ++ added
  pub tells : (s : State Table) → s.memory ≡ t → m.run s ≡ Went (record { parts = parts_of parts; objects = added }) s

abbrev pub PlacesAll : Step Table PlacedAll → Table → (old new : List CodeObject) → Result (Vec CodePart) Unread → Type 0
PlacesAll m t old new (Ok ps) = ArePlaced m t old new ps.items
PlacesAll m t old new (Err (Dies k)) = (s : State Table) → s.memory ≡ t → m.run s ≡ Died k
PlacesAll m t old new (Err OutOfMemory) = ⊤

-- a literal behind so many objects, with the Symbols of a map
abbrev pub literal_step : List (Vec ℕ × CodePart) → Owner → ℕ → Literal → Step Table Placed
literal_step named o next l = place_literal table (named_of named) (owner_step o) next (literal_view l)

abbrev pub literals_step : List (Vec ℕ × CodePart) → Owner → ℕ → List Literal → Step Table PlacedAll
literals_step named o next ls = place_literals table (named_of named) (owner_step o) next (literals_view ls)

abbrev pub array_step : List (Vec ℕ × CodePart) → Owner → ℕ → List Literal → Step Table Placed
array_step named o next ls = place_literal table (named_of named) (owner_step o) next (array (members_view ls))
