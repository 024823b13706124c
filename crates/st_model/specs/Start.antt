-- The objects that an image has, and the state in which its machine begins. All is read totally; it is meant of an image
-- that has none of the faults that concern the file, its objects and its roots.
use Rattle.std.specs.Prelude.{ℕ, ◌+◌, ◌-◌, ◌*◌, ◌/◌, ◌%◌, ◌==◌, List, slice_index, Bool, ◌&&◌, nat_lt, pos, if◌then◌else◌, Option, Some, None}
use Rattle.st_model.specs.declared.kind.Kind.{Kind}
use Rattle.st_model.specs.declared.kind.Kind.TheVariants as kind
use Rattle.st_model.specs.declared.head.ImageHead.{ImageHead}
use Rattle.st_model.specs.Lists.{made}
use Rattle.st_model.specs.Values.{Value, value_of}
use Rattle.st_model.specs.Objects.{Object, nil, is_words}
use Rattle.st_model.specs.Machine.{Head, State, Registers, Transition, empty_world}
use Rattle.st_model.specs.Births.{Births, births}
use Rattle.st_model.specs.Table.{Table, table}
use Rattle.st_model.specs.Show.{raised}
use Rattle.st_model.specs.View.{View, empty_view, table_of}
use Rattle.st_model.specs.Contexts.{fetch_scheduled_registers}
use Rattle.st_model.specs.Image.{bit, has_letters, flags, has_odd_length, has_pointers, is_used, place, size, class, body, literal_count}

-- the object of entry k is a class whose instances have words: it is a Pointers object whose field 2, the instance specification, is a
-- SmallInteger with bit 1 set
unfoldable pub is_word_class : ImageHead → List ℕ → ℕ → Bool
is_word_class h bytes k = has_pointers h bytes k && (nat_lt 4 (size h bytes k) && ((body h bytes k 2 % 2 == 1) && bit 1 (body h bytes k 2)))

-- an object without pointers that is no method has words: with the letters ST80 its entry marks it, without them its
-- class says so
unfoldable pub has_words : ImageHead → List ℕ → ℕ → Bool
has_words h bytes k = if has_letters bytes then bit 11 (flags h bytes k) else is_word_class h bytes (class h bytes k / 2)

-- the kind of the object of entry k; 34 is the class of methods
unfoldable pub kind_in : ImageHead → List ℕ → ℕ → Kind
kind_in h bytes k =
    if has_pointers h bytes k then kind.Pointers else
    if class h bytes k == 34 then kind.Method else
    if has_words h bytes k then kind.Words else kind.Bytes

-- how many fields an object has whose body has so many words: each word is one, or a method's header and literals are
abbrev pub field_count : Kind → ℕ → ℕ → ℕ
field_count kind.Pointers words literals = words
field_count kind.Method words literals = literals + 1
field_count k words literals = 0

-- the bytes of so many words; odd length takes the last one off, where there is one
abbrev pub byte_count : ℕ → Bool → ℕ
byte_count words odd = 2 * words - (if odd then 1 else 0)

-- how many units an object has whose body has so many words after its fields: they are words, or hold bytes
abbrev pub unit_count : Kind → ℕ → Bool → ℕ
unit_count kind.Pointers words odd = 0
unit_count kind.Words words odd = words
unit_count k words odd = byte_count words odd

-- how many fields the object of entry k has
unfoldable pub fields_in : ImageHead → List ℕ → ℕ → ℕ
fields_in h bytes k = field_count (kind_in h bytes k) (size h bytes k - 2) (literal_count (body h bytes k 0))

-- how many units it has
unfoldable pub units_in : ImageHead → List ℕ → ℕ → ℕ
units_in h bytes k = unit_count (kind_in h bytes k) (size h bytes k - 2 - fields_in h bytes k) (has_odd_length h bytes k)

-- field i of the object of entry k
unfoldable pub field_in : ImageHead → List ℕ → ℕ → ℕ → Value
field_in h bytes k i = value_of (body h bytes k i)

-- the first byte after the fields of the object of entry k
abbrev pub units_start : ImageHead → List ℕ → ℕ → ℕ
units_start h bytes k = 512 + 2 * (place h bytes k + 2 + fields_in h bytes k)

-- unit i of the object of entry k: the word or byte i after its fields
unfoldable pub unit_in : ImageHead → List ℕ → ℕ → ℕ → ℕ
unit_in h bytes k i = if is_words (kind_in h bytes k) then body h bytes k i else slice_index bytes (units_start h bytes k + i)

-- the object of entry k
unfoldable pub object_in : ImageHead → List ℕ → ℕ → Object
object_in h bytes k = record {
  class = class h bytes k / 2;
  kind = kind_in h bytes k;
  fields = made (field_in h bytes k) (fields_in h bytes k);
  units = made (unit_in h bytes k) (units_in h bytes k);
}

-- what the table has at place k
unfoldable pub entry_in : ImageHead → List ℕ → ℕ → Option Object
entry_in h bytes k = if is_used h bytes k then Some (object_in h bytes k) else None

-- the capacities, and the tables of names where there are any
abbrev pub machine_head : ImageHead → Head
machine_head h = record { entries = h.entries; words = h.words; globals = table_of h.globals; symbols = table_of h.symbols }

-- the image's objects, and nil held at every place
unfoldable pub start_view : ImageHead → List ℕ → View
start_view h bytes = record (empty_view (machine_head h)) { objects = made (entry_in h bytes) 32768 }

-- before they are fetched, the registers name nil
abbrev pub idle_registers : Registers
idle_registers = record { active = nil; home = nil; method = nil; receiver = nil; ip = pos 0; sp = 5 }

-- the objects under idle registers, in an empty world
abbrev pub idle_state : View → State Table
idle_state v = record { memory = v.objects; registers = idle_registers; world = empty_world nil; head = v.head }

-- The state in which the machine begins: its registers are those of the context of the scheduler's active process. It
-- is a death where they cannot be fetched.
unfoldable pub start : ImageHead → List ℕ → Transition (State Table) Unit
start h bytes = (fetch_scheduled_registers table).run (idle_state (start_view h bytes))

-- The state in which the book's machine begins: the image's objects are births, in rising order of pointers, and the
-- registers are fetched from the same context.
unfoldable pub begin : ImageHead → List ℕ → Transition (State Births) Unit
begin h bytes = (fetch_scheduled_registers births).run (raised (idle_state (start_view h bytes)))
