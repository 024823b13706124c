-- What is found while a list of names grows.
use Rattle.std.specs.Prelude.{◌≡◌, ◌⊎◌, ℕ, ◌+◌, Bool, true, false, List, [], ◌∷◌, ◌++◌, length, map, slice_get, Some}
use Rattle.st_model.specs.declared.oop.Oop.{Oop}
use Rattle.st_model.specs.Values.{Value, Ref, value}
use Rattle.st_model.specs.Objects.{Object, page, place_of}
use Rattle.st_model.specs.Machine.{head_roots}
use Rattle.st_model.specs.Settled.{AnyRefTo, is_marked}
use Rattle.st_model.specs.View.{View}
use Rattle.st_clean.specs.declared.state.Found.{Found}

-- the names that aren't marked yet
abbrev pub left : List Bool → ℕ
left [] = 0
left (true ∷ bs) = left bs
left (false ∷ bs) = 1 + left bs

-- what an object refers to
abbrev pub names_in : Object → List Value
names_in o = Ref o.class ∷ o.fields

-- the root page
abbrev pub page_names : List Value
page_names = map (λ q. Ref (place_of q)) page

-- what is needed first
abbrev pub first_names : View → List Value
first_names v = page_names ++ head_roots v.head

-- the list has this name
abbrev pub Has : List Oop → ℕ → Type 0
Has list n = (i : ℕ) × (x : Oop) × (slice_get list i ≡ Some x) × (value x ≡ Ref n)

-- one of these values is this name's
abbrev pub IsOneOf : List Value → Oop → Type 0
IsOneOf vs x = (n : ℕ) × (value x ≡ Ref n) × AnyRefTo n vs

-- Just what these values name was found besides what was. Each name that is found is listed once, so that as many are left and
-- listed as before.
pub record Notes (vs : List Value) (old new : Found) : Type 0 where
  pub kept : (n : ℕ) → is_marked old.marks.items n ≡ true → is_marked new.marks.items n ≡ true
  pub added : (n : ℕ) → AnyRefTo n vs → is_marked new.marks.items n ≡ true
  pub first : (i : ℕ) (x : Oop) → slice_get old.list.items i ≡ Some x → slice_get new.list.items i ≡ Some x
  pub behind : (i : ℕ) (x : Oop) → slice_get new.list.items i ≡ Some x → (slice_get old.list.items i ≡ Some x) ⊎ IsOneOf vs x
  pub listed : (n : ℕ) → is_marked new.marks.items n ≡ true → (is_marked old.marks.items n ≡ true) ⊎ Has new.list.items n
  pub total : left new.marks.items + length new.list.items ≡ left old.marks.items + length old.list.items
