-- The variables that a method of a class sees besides its own (chapters 3 and 4): instance variables, and those that pools
-- and the table of globals share.
use Rattle.std.specs.Prelude.{ℕ, ◌*◌, List, [], ◌∷◌, ◌++◌, Option, Some, None, Bool, true, false}
use Rattle.st_model.specs.Values.{Value}
use Rattle.st_model.specs.declared.page.PageObject.TheVariants.{NilObject}
use Rattle.st_model.specs.Machine.{ObjectMemory, Step, answer, tried, ◌>>=◌}
use Rattle.st_model.specs.Steps.{of_page, same_value, fetch_field, fetch_fields, count_fields}
use Rattle.st_model.specs.Lookup.{half_word}
use Rattle.st_emit.specs.Names.{SharedName}
use Rattle.st_scope.specs.Tables.{bytes_of, member_named}

abbrev pub joined : Option (Option Value) → Option Value
joined None = None
joined (Some found) = found

unfoldable pub or_later : {H : Type 0} → Option Value → Step H (Option Value) → Step H (Option Value)
or_later None otherwise = otherwise
or_later (Some v) otherwise = answer (Some v)

module _ {H : Type 0} (m : ObjectMemory H) where
  -- ARRAYS OF NAMES AND POOLS

  unfoldable pub fields_unless : Value → Bool → Step H (List Value)
  fields_unless v true = answer []
  fields_unless v false = do
    n ← count_fields m v
    fetch_fields m v 0 n

  -- the fields of an object of kind Pointers, or none where there is nil in its place
  unfoldable pub fields_or_none : Value → Step H (List Value)
  fields_or_none v = do
    nil ← of_page m NilObject
    fields_unless v (same_value v nil)

  -- INSTANCE VARIABLES

  unfoldable pub name_unless : Value → Bool → Step H (List ℕ)
  name_unless v true = answer []
  name_unless v false = bytes_of m v

  -- the bytes of a name; nil has none, so no variable is called so
  unfoldable pub name_of : Value → Step H (List ℕ)
  name_of v = do
    nil ← of_page m NilObject
    name_unless v (same_value v nil)

  unfoldable pub names_of : List Value → Step H (List (List ℕ))
  names_of [] = answer []
  names_of (v ∷ vs) = do
    name ← name_of v
    names ← names_of vs
    answer (name ∷ names)

  -- those that a class adds
  unfoldable pub own_names : Value → Step H (List (List ℕ))
  own_names class = do
    array ← fetch_field m class 4
    vs ← fields_or_none array
    names_of vs

  -- of a chain, those of superclasses first
  unfoldable pub field_names : List Value → Step H (List (List ℕ))
  field_names [] = answer []
  field_names (class ∷ classes) = do
    above ← field_names classes
    own ← own_names class
    answer (above ++ own)

  -- SHARED VARIABLES

  unfoldable pub pool_unless : Value → Bool → Step H (List Value)
  pool_unless v true = answer []
  pool_unless v false = do
    n ← count_fields m v
    answer (v ∷ [])

  -- a pool, or none where there is nil in its place
  unfoldable pub pool_or_none : Value → Step H (List Value)
  pool_or_none v = do
    nil ← of_page m NilObject
    pool_unless v (same_value v nil)

  -- the class pool, then the shared pools in order
  unfoldable pub own_pools : Value → Step H (List Value)
  own_pools class = do
    pool ← fetch_field m class 7
    own ← pool_or_none pool
    array ← fetch_field m class 8
    shared ← fields_or_none array
    answer (own ++ shared)

  -- of a chain, those of the class first
  unfoldable pub pools : List Value → Step H (List Value)
  pools [] = answer []
  pools (class ∷ classes) = do
    own ← own_pools class
    above ← pools classes
    answer (own ++ above)

  -- the first member of this name; what is no table has none
  unfoldable pub member_if_any : Value → List ℕ → Step H (Option Value)
  member_if_any table text = do
    found ← tried (member_named m table text)
    answer (joined found)

  -- the member of this name in the first of these tables that has one
  unfoldable pub association_in : List Value → List ℕ → Step H (Option Value)
  association_in [] text = answer None
  association_in (table ∷ tables) text = do
    found ← member_if_any table text
    or_later found (association_in tables text)

  -- a name that is shared, by the pointer of its association
  unfoldable pub shared_by : List ℕ → Option Value → Step H (List SharedName)
  shared_by text None = answer []
  shared_by text (Some association) = do
    half ← half_word m association
    answer (record { text = text; association = 2 * half } ∷ [])

  -- those of these names that are shared
  unfoldable pub shared_names : List Value → List (List ℕ) → Step H (List SharedName)
  shared_names tables [] = answer []
  shared_names tables (text ∷ texts) = do
    association ← association_in tables text
    first ← shared_by text association
    others ← shared_names tables texts
    answer (first ++ others)
