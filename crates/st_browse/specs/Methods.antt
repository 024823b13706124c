-- The methods of a class by their selectors. Of a class field 1 is the dictionary. Of a dictionary field 0 is the tally, field 1
-- the Array of methods, and from field 2 on stand the selectors, each at the place of its method.
use Rattle.std.specs.Prelude.{ℕ, ◌+◌, ◌-◌, List, [], Option, Some, None, Bool, ◌&&◌, option_and_then, nat_le, if◌then◌else◌}
use Rattle.std.specs.List.{filter_map, range_with_len}
use Rattle.st_model.specs.Values.{Value, is_small}
use Rattle.st_model.specs.Objects.{is_method}
use Rattle.st_model.specs.Table.{Table}
use Rattle.st_model.specs.View.{is_live, object_of}
use Rattle.st_scope.specs.Shapes.{is_power_of_two}
use Rattle.st_browse.specs.Naming.{Named, in_order, first_named}
use Rattle.st_browse.specs.Fields.{field_at, fields_in, named}

pub record Dictionary : Type 0 where
  pub selectors : Value
  pub methods : Value
  pub places : ℕ

-- the places of a dictionary
abbrev pub places_in : Table → Value → ℕ
places_in t v = fields_in t v - 2

-- the tally is a SmallInteger, the number of places a power of two, and there is a method for each place
unfoldable pub formed : Table → (selectors tally methods : Value) → Option Dictionary
formed t selectors tally methods =
    if is_small tally && is_power_of_two (places_in t selectors) && nat_le (places_in t selectors) (fields_in t methods)
    then Some (record { selectors = selectors; methods = methods; places = places_in t selectors }) else None

-- its fields 0 and 1
abbrev pub as_dictionary : Table → Value → Option Dictionary
as_dictionary t selectors =
    option_and_then (λ tally. option_and_then (formed t selectors tally) (field_at t selectors 1)) (field_at t selectors 0)

-- the dictionary of a class, where it has the form
unfoldable pub dictionary_of : Table → Value → Option Dictionary
dictionary_of t class = option_and_then (as_dictionary t) (field_at t class 1)

-- an object of kind Method is there
abbrev pub has_method : Table → Value → Bool
has_method t v = is_live t v && is_method (object_of t v).kind

unfoldable pub if_method : Table → Value → Option Value
if_method t v = if has_method t v then Some v else None

-- the method at a place, by its selector
unfoldable pub method_at : Table → Dictionary → ℕ → Option Named
method_at t d i = named t (field_at t d.selectors (2 + i)) (option_and_then (if_method t) (field_at t d.methods i))

-- the methods in the order of their places
unfoldable pub methods_in : Table → Option Dictionary → List Named
methods_in t None = []
methods_in t (Some d) = filter_map (method_at t d) (range_with_len 0 d.places)

-- the methods of a class by their selectors
unfoldable pub methods : Table → Value → List Named
methods t class = in_order (methods_in t (dictionary_of t class))

-- the method of a class for this selector
unfoldable pub method_named : Table → Value → List ℕ → Option Named
method_named t class selector = first_named selector (methods_in t (dictionary_of t class))
