-- What stands in an image's objects, or nothing where they haven't the form.
use Rattle.std.specs.Prelude.{ℕ, Option, Some, None, ◌&&◌, option_map, length, slice_get, if◌then◌else◌}
use Rattle.st_model.specs.Values.{Value}
use Rattle.st_model.specs.Objects.{is_pointers}
use Rattle.st_model.specs.Table.{Table}
use Rattle.st_model.specs.View.{is_live, object_of}
use Rattle.st_scope.specs.Texts.{text_at}
use Rattle.st_browse.specs.Naming.{Named}

-- field i of an object of kind Pointers
unfoldable pub field_at : Table → Value → ℕ → Option Value
field_at t v i = if is_live t v && is_pointers (object_of t v).kind then slice_get (object_of t v).fields i else None

-- how many fields an object of kind Pointers has; others have none
unfoldable pub fields_in : Table → Value → ℕ
fields_in t v = if is_live t v && is_pointers (object_of t v).kind then length (object_of t v).fields else 0

-- what the key names, where this is of kind Bytes
unfoldable pub named : Table → Option Value → Option Value → Option Named
named t None v = None
named t (Some key) None = None
named t (Some key) (Some v) = option_map (λ name. record { name = name; value = v }) (text_at t key)
