-- What is to be made and stored so that a method is installed.
use Rattle.std.specs.Prelude.{ℕ, ◌+◌, ◌/◌, List, [], ◌∷◌, length, Option}
use Rattle.st_model.specs.declared.demand.Demand.{Demand}
use Rattle.st_model.specs.declared.kind.Kind.{Kind}
use Rattle.st_model.specs.declared.kind.Kind.TheVariants.{Pointers, Bytes, Method}
use Rattle.st_model.specs.Values.{Value}

-- a value that is there, or the object of this number among those that are made, counted from 0
pub data PlannedValue : Type 0 where
  There : Value → PlannedValue
  Made : ℕ → PlannedValue

-- an object that is made: its class, its kind, its fields (of a Method the header and the literals), and its bytes
pub record NewObject : Type 0 where
  pub class : Value
  pub kind : Kind
  pub fields : List PlannedValue
  pub bytes : List ℕ

abbrev pub pointers_object : Value → List PlannedValue → NewObject
pointers_object class fields = record { class = class; kind = Pointers; fields = fields; bytes = [] }

abbrev pub bytes_object : Value → List ℕ → NewObject
bytes_object class bytes = record { class = class; kind = Bytes; fields = []; bytes = bytes }

abbrev pub method_object : Value → List PlannedValue → List ℕ → NewObject
method_object class fields bytes = record { class = class; kind = Method; fields = fields; bytes = bytes }

-- a value that goes into a field
pub record FieldStore : Type 0 where
  pub object : PlannedValue
  pub field : ℕ
  pub value : PlannedValue

-- the size word, the class word and the words of the body
abbrev pub words_of_new : NewObject → ℕ
words_of_new o = 2 + length o.fields + (length o.bytes + 1) / 2

abbrev pub words_of_all : List NewObject → ℕ
words_of_all [] = 0
words_of_all (o ∷ os) = words_of_new o + words_of_all os

-- the entries and words of objects
abbrev pub demand_of_all : List NewObject → Demand
demand_of_all os = record { entries = length os; words = words_of_all os }

-- What an installation makes and stores: all of the objects, in the order in which they are made; the stores into the symbol
-- table; and the dictionary into which the selector and its method go.
pub record Plan : Type 0 where
  pub objects : List NewObject
  pub symbol_stores : List FieldStore
  pub selector : PlannedValue
  pub method : PlannedValue
  pub class : Value
  pub dictionary : Value
  -- the dictionary that takes its place, where it grows; the one that was made after it is its Array of methods
  pub grown : Option ℕ
