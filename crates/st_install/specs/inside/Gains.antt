-- What a class gains by an installation: the search finds the new method, and for each other selector what it found before.
use Rattle.std.specs.Prelude.{◌≡◌, ◌≢◌, ◌<◌, ◌+◌, ℕ, zero, suc, length, List, [], ◌∷◌, Some, true, if◌then◌else◌, ⊤}
use Rattle.std.specs.List.{AllByRecursion}
use Rattle.st_model.specs.Values.{Value}
use Rattle.st_model.specs.Objects.{nil}
use Rattle.st_model.specs.Machine.{State, Transition, Died, Went, is_there}
use Rattle.st_model.specs.Steps.{same_value}
use Rattle.st_model.specs.Lookup.{find}
use Rattle.st_model.specs.Table.{Table, table, bounded_table}
use Rattle.st_model.specs.Show.{IsClosed}
use Rattle.st_model.specs.Settled.{reclaim}
use Rattle.st_model.specs.View.{View, IsWhole, object_of, field_of}
use Rattle.st_install.specs.Plans.{Plan}
use Rattle.st_install.specs.Dictionaries.{Holds, place_of_selector}
use Rattle.st_install.specs.Installing.{part_value, make_all, install}
use Rattle.st_install.specs.inside.Goes.{IsReadyFor}

abbrev pub dictionary_of : Table → Value → Value
dictionary_of t class = field_of t class 1

-- the Array of methods
abbrev pub methods_of : Table → Value → Value
methods_of t class = field_of t (dictionary_of t class) 1

-- a class and its superclasses up to nil, so many at most
unfoldable pub superclasses : Table → ℕ → Value → List Value
superclasses t zero class = []
superclasses t (suc left) class = if same_value class nil then [] else class ∷ superclasses t left (field_of t class 0)

-- those that a search goes through
unfoldable pub superclass_list : Table → Value → List Value
superclass_list t class = superclasses t 32767 class

-- a value is none of these
abbrev pub IsNoneOf : List Value → Value → Type 0
IsNoneOf [] v = ⊤
IsNoneOf (x ∷ xs) v = (v ≢ x) × IsNoneOf xs v

-- all of these are different
abbrev pub AreDifferent : List Value → Type 0
AreDifferent [] = ⊤
AreDifferent (x ∷ xs) = IsNoneOf xs x × AreDifferent xs

-- what an installation stores into: the class, its dictionary, its Array of methods, the symbol table's association and its value
abbrev pub touched : Table → (class association : Value) → List Value
touched t class association = class ∷ dictionary_of t class ∷ methods_of t class ∷ association ∷ field_of t association 1 ∷ []

-- a class that has nothing to do with these
pub record IsUntouched (t : Table) (vs : List Value) (class : Value) : Type 0 where
  pub itself : IsNoneOf vs class
  pub dictionary : IsNoneOf vs (dictionary_of t class)
  pub methods : IsNoneOf vs (methods_of t class)

-- a class whose methods aren't shared in a strange way, and in whose dictionary the search finds each selector at its own place
pub record IsOrderly (t : Table) (class association : Value) : Type 0 where
  pub not_nil : class ≢ nil
  pub different : AreDifferent (touched t class association)
  pub others : AllByRecursion (λ c. c ≢ class → IsUntouched t (touched t class association) c) (superclass_list t class)
  pub places : (k : ℕ) → 2 + k < length (object_of t (dictionary_of t class)).fields → field_of t (dictionary_of t class) (2 + k) ≢ nil
      → (s : State Table) → s.memory ≡ t
      → (place_of_selector table (dictionary_of t class) (field_of t (dictionary_of t class) (2 + k))).run s ≡ Went (Holds k) s

-- both died of one cause, or both answered the same
abbrev pub SameAnswer : {A : Type 0} → Transition (State Table) A → Transition (State Table) A → Type 0
SameAnswer (Died a) (Died b) = a ≡ b
SameAnswer (Died a) (Went b u) = ⊥
SameAnswer (Went a s) (Died b) = ⊥
SameAnswer (Went a s) (Went b u) = a ≡ b

-- from a state the objects of a plan were made, and all stores were done
pub record IsInstalled (p : Plan) (s : State Table) (made : List Value) (u : State Table) : Type 0 where
  pub between : State Table
  pub makes : (make_all bounded_table p.objects).run s ≡ Went made between
  pub installs : (install bounded_table p).run s ≡ Went tt u

-- then the search finds the new method for its selector, and for each other one but nil what it found before: also for one that
-- was made only now, for which it finds none in both
pub record Gained (p : Plan) (class : Value) (s : State Table) (made : List Value) (u : State Table) : Type 0 where
  pub new : (find table class (part_value nil made p.selector)).run u ≡ Went (Some (part_value nil made p.method)) u
  pub others : (x : Value) → x ≢ nil → x ≢ part_value nil made p.selector → SameAnswer ((find table class x).run s) ((find table class x).run u)

-- an orderly class gains what is installed in it
abbrev pub Gains : Type 0
Gains = (v : View) (p : Plan) → IsWhole v → (h : IsReadyFor v p) → (association : Value) → v.head.symbols ≡ Some association
    → IsOrderly v.objects h.class association → (s u : State Table) (made : List Value) → s.memory ≡ v.objects → s.head ≡ v.head
    → IsInstalled p s made u → Gained p h.class s made u

-- a class that is kept still has it once what nothing supports is dropped
abbrev pub GainsStay : Type 0
GainsStay = (v : View) (p : Plan) → IsWhole v → (h : IsReadyFor v p) → (association : Value) → v.head.symbols ≡ Some association
    → IsOrderly v.objects h.class association → (s u : State Table) (made : List Value) → s.memory ≡ v.objects → s.head ≡ v.head
    → IsInstalled p s made u → IsClosed u → is_there table (reclaim table u).memory h.class ≡ true → Gained p h.class s made (reclaim table u)
