-- The bytes of an object, as code compares them with a text.
use Rattle.std.specs.Prelude.{ℕ, List, Option, Some, None, ◌&&◌, option_map, if◌then◌else◌}
use Rattle.st_model.specs.declared.oop.Oop.{Oop}
use Rattle.st_model.specs.Values.{Value, value}
use Rattle.st_model.specs.Objects.{is_bytes}
use Rattle.st_model.specs.Table.{Table}
use Rattle.st_model.specs.View.{is_live, object_of}

-- those of an object of kind Bytes
unfoldable pub text_at : Table → Value → Option (List ℕ)
text_at t v = if is_live t v && is_bytes (object_of t v).kind then Some (object_of t v).units else None

-- what a pointer that may be there means
abbrev pub found : Option Oop → Option Value
found x = option_map value x
