-- The association of a method's class: on the instance side the global by which the class was found, and on the class side one of
-- the same class, with nil as key and the metaclass as value.
use Rattle.std.specs.Prelude.{ℕ, List, Option, Some, None, Bool, true, false, ◌&&◌}
use Rattle.st_model.specs.Values.{Value}
use Rattle.st_model.specs.Objects.{nil}
use Rattle.st_model.specs.Machine.{ObjectMemory, Step, State, Transition, Died, Went, answer, ◌>>=◌}
use Rattle.st_model.specs.Steps.{class_of, same_value, fetch_field}
use Rattle.st_model.specs.Deeds.{over_table}
use Rattle.st_model.specs.Table.{Table, table}
use Rattle.st_model.specs.View.{View}
use Rattle.st_scope.specs.Classes.{class_association}

-- it was answered that it is so
abbrev pub was_true : Transition (State Table) Bool → Bool
was_true (Died cause) = false
was_true (Went b s) = b

module _ {H : Type 0} (m : ObjectMemory H) where
  unfoldable pub is_of_metaclass : (global metaclass association : Value) → Step H Bool
  is_of_metaclass global metaclass association = do
    kind ← class_of m global
    same ← class_of m association
    key ← fetch_field m association 0
    class ← fetch_field m association 1
    answer (same_value same kind && (same_value key nil && same_value class metaclass))

  unfoldable pub owns_by : (global class v : Value) → (meta : Bool) → Step H Bool
  owns_by global class v false = answer (same_value v global)
  owns_by global class v true = is_of_metaclass global class v

  unfoldable pub owns : (globals : Value) → List ℕ → (class v : Value) → (meta : Bool) → Step H Bool
  owns globals name class v meta = do
    global ← class_association m globals name
    owns_by global class v meta

-- over a table; where there is no such class it isn't
unfoldable pub is_owner_among : Table → Option Value → List ℕ → (class : Value) → (meta : Bool) → Value → Bool
is_owner_among t None name class meta v = false
is_owner_among t (Some globals) name class meta v = was_true ((owns table globals name class v meta).run (over_table t))
