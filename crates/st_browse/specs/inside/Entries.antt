-- What structs of the code mean.
use Rattle.std.specs.Prelude.{◌≡◌, ℕ, List, Option, None, true, option_map, ◌+◌, ◌*◌, ◌≤◌, length}
use Rattle.std.specs.List.{filter_map, range_with_len}
use Rattle.st_model.specs.declared.oop.Oop.{Oop}
use Rattle.st_model.specs.Values.{Value, value}
use Rattle.st_model.specs.Objects.{is_bytes, is_method}
use Rattle.st_model.specs.Table.{Table}
use Rattle.st_model.specs.View.{is_live, object_of}
use Rattle.st_browse.specs.declared.codes.Body.{Body}
use Rattle.st_browse.specs.declared.named.Named.{Named as NamedRead}
use Rattle.st_browse.specs.declared.dictionary.Dictionary.{Dictionary as DictionaryRead}
use Rattle.st_browse.specs.declared.line.Line.{Line}
use Rattle.st_browse.specs.declared.line.Line.TheVariants as line
use Rattle.st_browse.specs.declared.names.Names.{Names}
use Rattle.st_browse.specs.declared.names.Names.TheVariants.{Nowhere, Globals, Methods}
use Rattle.st_browse.specs.Naming.{Named}
use Rattle.st_browse.specs.Classes.{global_at}
use Rattle.st_browse.specs.Methods.{Dictionary, method_at}

-- an object of kind Bytes is there
pub record IsName (t : Table) (v : Value) : Type 0 where
  pub live : is_live t v ≡ true
  pub kind : is_bytes (object_of t v).kind ≡ true

-- the bytes of a name
abbrev pub name_of : Table → Oop → List ℕ
name_of t o = (object_of t (value o)).units

abbrev pub name_if : Table → Option Oop → Option (List ℕ)
name_if t o = option_map (name_of t) o

abbrev pub named_of : Table → NamedRead → Named
named_of t n = record { name = name_of t n.name; value = value n.value }

abbrev pub named_if : Table → Option NamedRead → Option Named
named_if t n = option_map (named_of t) n

abbrev pub dictionary_read : DictionaryRead → Dictionary
dictionary_read d = record { selectors = value d.selectors; methods = value d.methods; places = d.places }

abbrev pub dictionary_if : Option DictionaryRead → Option Dictionary
dictionary_if d = option_map dictionary_read d

-- what place i names
abbrev pub name_at : Table → Names → ℕ → Option Named
name_at t Nowhere i = None
name_at t (Globals globals count) i = global_at t (value globals) i
name_at t (Methods d) i = method_at t (dictionary_read d) i

abbrev pub count_of : Names → ℕ
count_of Nowhere = 0
count_of (Globals globals count) = count
count_of (Methods d) = d.places

-- the names that stand there, by their places
abbrev pub names_in : Table → Names → List Named
names_in t names = filter_map (name_at t names) (range_with_len 0 (count_of names))

-- a class that a line speaks of has a name
abbrev pub IsLine : Table → Line → Type 0
IsLine t line.Class = Unit {0}
IsLine t line.Method = Unit {0}
IsLine t (line.Sender class meta) = IsName t (value class)

-- a method is there, with so many fields and bytes
pub record IsBody (t : Table) (b : Body) : Type 0 where
  pub live : is_live t (value b.method) ≡ true
  pub kind : is_method (object_of t (value b.method)).kind ≡ true
  pub fields : b.fields ≡ length (object_of t (value b.method)).fields
  pub units : b.units ≡ length (object_of t (value b.method)).units
  pub few : 2 * b.fields + b.units ≤ 131066
