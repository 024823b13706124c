-- The form that an installation asks of a class and of the symbol table. Each condition is a step that dies where it doesn't hold.
use Rattle.std.specs.Prelude.{ℕ, ◌-◌, Option, Some, None, Bool, ◌&&◌, ◌==◌, nat_lt, bit_and}
use Rattle.st_model.specs.declared.dead.Dead.TheVariants as dead
use Rattle.st_model.specs.Values.{Value}
use Rattle.st_model.specs.Machine.{ObjectMemory, Step, answer, ◌>>=◌, ◌>>◌}
use Rattle.st_model.specs.Steps.{check, fetch_field, count_fields}
use Rattle.st_model.specs.Primitives.{bits_or_die}
use Rattle.st_scope.specs.Tables.{check_fields}

abbrev pub is_power_of_two : ℕ → Bool
is_power_of_two n = nat_lt 0 n && (bit_and n (n - 1) == 0)

module _ {H : Type 0} (m : ObjectMemory H) where
  -- The tally is a SmallInteger, the number of places a power of two, and there is a method for each place.
  unfoldable pub check_dictionary : Value → Step H Unit
  check_dictionary class = do
    dictionary ← fetch_field m class 1
    n ← count_fields m dictionary
    check dead.Places (is_power_of_two (n - 2))
    tally ← fetch_field m dictionary 0
    bits ← bits_or_die tally
    methods ← fetch_field m dictionary 1
    check_fields m methods (n - 2)

  -- an association, whose value is of kind Pointers
  unfoldable pub check_symbol_table : Value → Step H Unit
  check_symbol_table association = do
    check_fields m association 2
    table ← fetch_field m association 1
    check_fields m table 0

  -- the symbol table, if the image names one
  unfoldable pub check_symbols : Option Value → Step H Unit
  check_symbols None = answer tt
  check_symbols (Some association) = check_symbol_table association
