-- Objects, of one form for all kinds (chapter 30), and the objects of the root page.
use Rattle.std.specs.Prelude.{ℕ, ◌+◌, ◌*◌, ◌/◌, List, [], ◌∷◌, length, Bool, true, false, if◌then◌else◌, slice_set}
use Rattle.st_model.specs.declared.kind.Kind.{Kind}
use Rattle.st_model.specs.declared.kind.Kind.TheVariants.{Pointers, Words, Bytes, Method}
pub use Rattle.st_model.specs.declared.page.PageObject.{PageObject}
pub use Rattle.st_model.specs.declared.page.PageObject.TheVariants.{NilObject, FalseObject, TrueObject, SchedulerAssociation, SmallIntegerClass, StringClass, ArrayClass, MethodContextClass, BlockContextClass, PointClass, LargeClass, MessageClass, MethodClass, CharacterClass, NotUnderstood, CannotReturn, Selectors, Characters, MustBeBoolean, SymbolClass}
use Rattle.st_model.specs.Values.{Value, Ref, renamed_all, AllLive}

-- The fields of a Method are its header and literals, and its units the bytes after them.
-- Pointers has no units, and Words and Bytes have no fields.
pub record Object : Type 0 where
  pub class : ℕ
  pub kind : Kind
  pub fields : List Value
  pub units : List ℕ

abbrev pub is_pointers : Kind → Bool
is_pointers Pointers = true
is_pointers k = false

abbrev pub is_words : Kind → Bool
is_words Words = true
is_words k = false

abbrev pub is_bytes : Kind → Bool
is_bytes Bytes = true
is_bytes k = false

abbrev pub is_method : Kind → Bool
is_method Method = true
is_method k = false

abbrev pub has_bytes : Kind → Bool
has_bytes Bytes = true
has_bytes Method = true
has_bytes k = false

-- an object of this kind has fields: pointers, or a header and literals
abbrev pub holds_fields : Kind → Bool
holds_fields Pointers = true
holds_fields Words = false
holds_fields Bytes = false
holds_fields Method = true

-- the place of the first unit: that of the first bytecode in a Method, and 0 in Words and Bytes
abbrev pub first_unit : Object → ℕ
first_unit o = 2 * length o.fields

-- how many fields, words or bytes it has; a Method's header and literals count as bytes
abbrev pub size_of : Object → ℕ
size_of o = if is_pointers o.kind then length o.fields else first_unit o + length o.units

-- the size word, the class word and the words of the body
abbrev pub words_of : Object → ℕ
words_of o = if is_words o.kind then 2 + length o.units else 2 + length o.fields + (length o.units + 1) / 2

-- an object counts as one entry of the table
abbrev pub one : Object → ℕ
one o = 1

-- the object with x in field i
abbrev pub with_field : Object → ℕ → Value → Object
with_field o i x = record { class = o.class; kind = o.kind; fields = slice_set o.fields i x; units = o.units }

-- the object with x in word or byte i
abbrev pub object_with_unit : Object → ℕ → ℕ → Object
object_with_unit o i x = record { class = o.class; kind = o.kind; fields = o.fields; units = slice_set o.units i x }

-- the object with these words or bytes
abbrev pub with_units : Object → List ℕ → Object
with_units o us = record { class = o.class; kind = o.kind; fields = o.fields; units = us }

-- the object with its names changed
abbrev pub renamed_object : (ℕ → ℕ) → Object → Object
renamed_object f o = record { class = f o.class; kind = o.kind; fields = renamed_all f o.fields; units = o.units }

-- it refers to nothing but what lives
pub record IsLiveObject (live : ℕ → Type 0) (o : Object) : Type 0 where
  pub class : live o.class
  pub fields : AllLive live o.fields

abbrev pub page : List PageObject
page = NilObject ∷ FalseObject ∷ TrueObject ∷ SchedulerAssociation ∷ SmallIntegerClass ∷ StringClass ∷ ArrayClass ∷ MethodContextClass ∷ BlockContextClass ∷ PointClass ∷ LargeClass ∷ MessageClass ∷ MethodClass ∷ CharacterClass ∷ NotUnderstood ∷ CannotReturn ∷ Selectors ∷ Characters ∷ MustBeBoolean ∷ SymbolClass ∷ []

-- half of the pointer that an object of the page bears
abbrev pub place_of : PageObject → ℕ
place_of NilObject = 1
place_of FalseObject = 2
place_of TrueObject = 3
place_of SchedulerAssociation = 4
place_of SmallIntegerClass = 6
place_of StringClass = 7
place_of ArrayClass = 8
place_of MethodContextClass = 11
place_of BlockContextClass = 12
place_of PointClass = 13
place_of LargeClass = 14
place_of MessageClass = 16
place_of MethodClass = 17
place_of CharacterClass = 20
place_of NotUnderstood = 21
place_of CannotReturn = 22
place_of Selectors = 24
place_of Characters = 25
place_of MustBeBoolean = 26
place_of SymbolClass = 28

-- nil's value in the table
abbrev pub nil : Value
nil = Ref 1
