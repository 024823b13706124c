-- The Symbols of a method as the code plans them: what its plan means, and what calls do with it.
use Rattle.std.specs.Prelude.{◌≡◌, ℕ, ◌+◌, ◌-◌, List, [], ◌∷◌, ◌++◌, map, length, replicate, slice_set, Result, Ok, Err, ⊤}
use Rattle.std.specs.Global.{Vec}
use Rattle.st_model.specs.declared.oop.Oop.{Oop}
use Rattle.st_model.specs.declared.page.PageObject.TheVariants.{NilObject, ArrayClass, SymbolClass}
use Rattle.st_model.specs.Values.{Value, Ref, value}
use Rattle.st_model.specs.Objects.{place_of}
use Rattle.st_model.specs.Machine.{State, Died, Went, Step, ◌>>=◌}
use Rattle.st_model.specs.Steps.{count_fields, fetch_fields}
use Rattle.st_model.specs.Table.{Table, table}
use Rattle.st_scope.specs.declared.unread.Unread.{Unread}
use Rattle.st_scope.specs.declared.unread.Unread.TheVariants.{Dies, OutOfMemory}
use Rattle.st_install.specs.declared.plan.PlannedValue.{PlannedValue as CodePart}
use Rattle.st_install.specs.declared.symbol_plan.SymbolPlan.{SymbolPlan}
use Rattle.st_install.specs.Plans.{PlannedValue, There, Made, pointers_object}
use Rattle.st_install.specs.Symbols.{Symbols, symbol_part, grown_size, with_new_symbol, with_symbols}
use Rattle.st_install.specs.inside.Readies.{part_of, parts_of, objects_of, stores_of}
use Rattle.st_install.specs.inside.Told.{named_of}

abbrev pub nil : Value
nil = Ref (place_of NilObject)

-- FIELDS

-- all fields of an object
abbrev pub all_fields : Value → Step Table (List Value)
all_fields o = count_fields table o >>= (λ n. fetch_fields table o 0 n)

-- these are the fields
pub record AreFields (o : Value) (t : Table) (parts : List CodePart) : Type 0 where
  pub values : List Value
  pub are : parts_of parts ≡ map There values
  pub tells : (s : State Table) → s.memory ≡ t → (all_fields o).run s ≡ Went values s

abbrev pub TellsFields : Value → Table → Result (Vec CodePart) Unread → Type 0
TellsFields o t (Ok ps) = AreFields o t ps.items
TellsFields o t (Err (Dies k)) = (s : State Table) → s.memory ≡ t → (all_fields o).run s ≡ Died k
TellsFields o t (Err OutOfMemory) = ⊤

-- PLANS OF SYMBOLS

-- the plan means these; of a text it knows the Symbol that is named first
pub record IsNamed (p : SymbolPlan) (s : Symbols) : Type 0 where
  pub table : part_of p.table ≡ s.table
  pub fields : parts_of p.fields.items ≡ s.fields
  pub objects : objects_of p.objects.items ≡ s.objects
  pub stores : stores_of p.stores.items ≡ s.stores
  pub named : (text : List ℕ) → symbol_part (named_of p.named.entries) text ≡ symbol_part s.named text

-- whatever the plan meant, it means what this makes of it
abbrev pub Becomes : (Symbols → Symbols) → SymbolPlan → SymbolPlan → Type 0
Becomes f old new = (s : Symbols) → IsNamed old s → IsNamed new (f s)

-- a Symbol is known by its text
abbrev pub with_named : List ℕ → PlannedValue → Symbols → Symbols
with_named text p s = record s { named = s.named ++ record { text = text; part = p } ∷ [] }

-- a Symbol goes into the field of the table
abbrev pub in_field : ℕ → PlannedValue → Symbols → Symbols
in_field k p s = record s {
  fields = slice_set s.fields k p;
  stores = s.stores ++ record { object = s.table; field = k; value = p } ∷ [];
}

abbrev pub grown_with : PlannedValue → List PlannedValue → List PlannedValue
grown_with p fields = fields ++ p ∷ replicate (grown_size (length fields) - (length fields + 1)) (There nil)

-- an Array that has the Symbol too becomes the table's value
abbrev pub in_array : Oop → PlannedValue → Symbols → Symbols
in_array association p s = record s {
  table = Made (length s.objects);
  fields = grown_with p s.fields;
  objects = s.objects ++ pointers_object (Ref (place_of ArrayClass)) (grown_with p s.fields) ∷ [];
  stores = s.stores ++ record { object = There (value association); field = 1; value = Made (length s.objects) } ∷ [];
}

-- a new Symbol
abbrev pub with_made : Oop → List ℕ → Symbols → Symbols
with_made association text s = with_new_symbol nil (Ref (place_of ArrayClass)) (Ref (place_of SymbolClass)) (value association) text s

-- the step answers what the plan means
pub record Names (m : Step Table Symbols) (t : Table) (p : SymbolPlan) : Type 0 where
  pub symbols : Symbols
  pub is : IsNamed p symbols
  pub tells : (s : State Table) → s.memory ≡ t → m.run s ≡ Went symbols s

-- from what the plan meant, the step leads to what it means
abbrev pub TellsNaming : (Symbols → Step Table Symbols) → Table → (old new : SymbolPlan) → Result Unit Unread → Type 0
TellsNaming m t old new (Ok u) = (s : Symbols) → IsNamed old s → Names (m s) t new
TellsNaming m t old new (Err (Dies k)) = (s : Symbols) → IsNamed old s → (st : State Table) → st.memory ≡ t → (m s).run st ≡ Died k
TellsNaming m t old new (Err OutOfMemory) = ⊤

abbrev pub TellsNames : Step Table Symbols → Table → Result SymbolPlan Unread → Type 0
TellsNames m t (Ok p) = Names m t p
TellsNames m t (Err (Dies k)) = (s : State Table) → s.memory ≡ t → m.run s ≡ Died k
TellsNames m t (Err OutOfMemory) = ⊤

-- the Symbols of these texts, in a table that is the value of an association
abbrev pub naming : Oop → Oop → List (List ℕ) → Symbols → Step Table Symbols
naming association array texts s = with_symbols table (value association) (value array) texts s
