-- What the installation of a compiled method makes and stores, in the order: the Symbols that the table lacks, the other
-- literals, the method, and a dictionary where the old one is too full.
use Rattle.std.specs.Prelude.{ℕ, ◌+◌, List, [], ◌∷◌, ◌++◌, length, Option, Some, None, Bool, true, false}
use Rattle.st_model.specs.declared.dead.Dead.TheVariants as dead
use Rattle.st_model.specs.Values.{Value, value_of}
use Rattle.st_model.specs.declared.page.PageObject.TheVariants.{MethodClass}
use Rattle.st_model.specs.Machine.{ObjectMemory, Step, answer, ◌>>=◌, ◌>>◌}
use Rattle.st_model.specs.Steps.{of_page, or_die, fetch_field}
use Rattle.st_code.specs.Methods.{PartsView}
use Rattle.st_install.specs.Plans.{PlannedValue, There, Made, NewObject, Plan, method_object}
use Rattle.st_install.specs.Symbols.{Symbols, symbols_in, symbol_part, symbols_for}
use Rattle.st_install.specs.Literals.{PlacedAll, place_owner, place_literals}
use Rattle.st_install.specs.Dictionaries.{grows_for, grown_objects}
use Rattle.st_install.specs.Shapes.{check_size}

-- the number of the method among the objects
abbrev pub method_number : Symbols → PlacedAll → ℕ
method_number symbols literals = length symbols.objects + length literals.objects

-- the objects up to the method
abbrev pub objects_with_method : (method_class : Value) → PartsView → Symbols → PlacedAll → List NewObject
objects_with_method method_class parts symbols literals =
    symbols.objects ++ literals.objects ++ method_object method_class (There (value_of parts.header) ∷ literals.parts) parts.bytes ∷ []

-- the number of the new dictionary, where there is one
abbrev pub grown_number : Bool → Symbols → PlacedAll → Option ℕ
grown_number true symbols literals = Some (method_number symbols literals + 1)
grown_number false symbols literals = None

-- the plan, where none of its objects has too many words
unfoldable pub sized : {H : Type 0} → Plan → Step H Plan
sized p = check_size p.objects >> answer p

module _ {H : Type 0} (m : ObjectMemory H) where
  unfoldable pub grown_if : Value → ℕ → Bool → Step H (List NewObject)
  grown_if dictionary next true = grown_objects m dictionary next
  grown_if dictionary next false = answer []

  unfoldable pub plan_objects : Value → PartsView → Symbols → PlacedAll → PlannedValue → Step H Plan
  plan_objects class parts symbols literals selector = do
    dictionary ← fetch_field m class 1
    grows ← grows_for m dictionary selector
    grown ← grown_if dictionary (method_number symbols literals + 1) grows
    method_class ← of_page m MethodClass
    sized (record {
      objects = objects_with_method method_class parts symbols literals ++ grown;
      symbol_stores = symbols.stores;
      selector = selector;
      method = Made (method_number symbols literals);
      class = class;
      dictionary = dictionary;
      grown = grown_number grows symbols literals;
    })

  -- The installation of these parts into a class that was found by an association. It dies where the table of characters lacks one
  -- of the literals, or where an object would have too many words.
  unfoldable pub plan : (symbol_table association class : Value) → (meta : Bool) → PartsView → Step H Plan
  plan symbol_table association class meta parts = do
    symbols ← symbols_for m symbol_table (parts.selector ∷ symbols_in parts.literals)
    literals ← place_literals m symbols.named (place_owner m association class meta) (length symbols.objects) parts.literals
    selector ← or_die dead.Field (symbol_part symbols.named parts.selector)
    plan_objects class parts symbols literals selector
