-- Tables of names, as the table of globals and the pools: objects of kind Pointers. The members are the fields that are
-- themselves of kind Pointers, with two fields or more, of which field 0, the key, is of kind Bytes; field 1 is the value.
-- Other fields are skipped.
use Rattle.std.specs.Prelude.{ℕ, zero, suc, List, Option, Some, None, Bool, true, false, nat_le, bytes_eq}
use Rattle.st_model.specs.declared.dead.Dead.TheVariants as dead
use Rattle.st_model.specs.Values.{Value}
use Rattle.st_model.specs.Objects.{is_bytes}
use Rattle.st_model.specs.Machine.{ObjectMemory, Step, answer, tried, ◌>>=◌, ◌>>◌}
use Rattle.st_model.specs.Steps.{object, check, fetch_field, count_fields}

abbrev pub is_text : List ℕ → Option (List ℕ) → Bool
is_text text None = false
is_text text (Some name) = bytes_eq name text

-- this value where the test holds, and else what comes otherwise
unfoldable pub found_or : {H : Type 0} → Bool → Value → Step H (Option Value) → Step H (Option Value)
found_or true v otherwise = answer (Some v)
found_or false v otherwise = otherwise

module _ {H : Type 0} (m : ObjectMemory H) where
  -- an object of kind Pointers with so many fields or more
  unfoldable pub check_fields : Value → ℕ → Step H Unit
  check_fields v least = do
    n ← count_fields m v
    check dead.Field (nat_le least n)

  -- the bytes of an object of kind Bytes
  unfoldable pub bytes_of : Value → Step H (List ℕ)
  bytes_of v = do
    o ← object m v
    check dead.Kind (is_bytes o.kind)
    answer o.units

  unfoldable pub member_key : Value → Step H Value
  member_key v = do
    check_fields v 2
    fetch_field m v 0

  -- the name of a member
  unfoldable pub member_name : Value → Step H (List ℕ)
  member_name v = do
    key ← member_key v
    bytes_of key

  -- it is a member, of this name
  unfoldable pub has_name : Value → List ℕ → Step H Bool
  has_name v text = do
    name ← tried (member_name v)
    answer (is_text text name)

  -- the first of so many fields from one on for which a test holds
  unfoldable pub first_from : Value → (Value → Step H Bool) → ℕ → ℕ → Step H (Option Value)
  first_from o test i zero = answer None
  first_from o test i (suc left) = do
    v ← fetch_field m o i
    holds ← test v
    found_or holds v (first_from o test (suc i) left)

  -- of all fields of an object of kind Pointers
  unfoldable pub first_field : Value → (Value → Step H Bool) → Step H (Option Value)
  first_field o test = do
    n ← count_fields m o
    first_from o test 0 n

  -- the first member of this name
  unfoldable pub member_named : Value → List ℕ → Step H (Option Value)
  member_named table text = first_field table (λ v. has_name v text)
