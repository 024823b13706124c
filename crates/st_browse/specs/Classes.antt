-- The classes of an image: they are named by its table of globals, and by themselves.
use Rattle.std.specs.Prelude.{ℕ, List, [], Option, Some, None, Bool, true, false, ◌&&◌, option_and_then, nat_le, filter, if◌then◌else◌}
use Rattle.std.specs.List.{filter_map, range_with_len}
use Rattle.st_model.specs.Values.{Value, Ref}
use Rattle.st_model.specs.Table.{Table}
use Rattle.st_model.specs.View.{object_of}
use Rattle.st_scope.specs.Tables.{is_text}
use Rattle.st_scope.specs.Texts.{text_at}
use Rattle.st_browse.specs.Naming.{Named, in_order, first_named}
use Rattle.st_browse.specs.Fields.{field_at, fields_in, named}

-- a member of a table of names: its field 0 is the key, of kind Bytes, and its field 1 the value
unfoldable pub member : Table → Value → Option Named
member t v = named t (field_at t v 0) (field_at t v 1)

-- what stands in field i of a table of names
unfoldable pub global_at : Table → Value → ℕ → Option Named
global_at t globals i = option_and_then (member t) (field_at t globals i)

-- the globals, in the order of their table
unfoldable pub globals_in : Table → Option Value → List Named
globals_in t None = []
globals_in t (Some globals) = filter_map (global_at t globals) (range_with_len 0 (fields_in t globals))

-- the text that stands in a field
abbrev pub text_in : Table → Value → ℕ → Option (List ℕ)
text_in t v i = option_and_then (text_at t) (field_at t v i)

-- the value is a class of this name: it has 9 fields or more, and its field 6 is its name
unfoldable pub is_class : Table → Named → Bool
is_class t n = nat_le 9 (fields_in t n.value) && is_text n.name (text_in t n.value 6)

-- the classes by their names
unfoldable pub classes : Table → Option Value → List Named
classes t globals = filter (is_class t) (in_order (globals_in t globals))

-- the class of this name
unfoldable pub class_named : Table → Option Value → List ℕ → Option Value
class_named t globals name = option_and_then (λ n. if is_class t n then Some n.value else None) (first_named name (globals_in t globals))

-- the class itself, or on the class side its own class
unfoldable pub on_side : Table → (meta : Bool) → Value → Value
on_side t false class = class
on_side t true class = Ref (object_of t class).class
