-- The search for a method (chapter 27): through the method dictionaries of a class and of its superclasses.
-- Of a class field 0 is the superclass and field 1 the method dictionary. Of a dictionary field 1 is an Array of
-- methods, and from field 2 on stand the places for selectors; the method for the selector at place k is field k of
-- that Array.
use Rattle.std.specs.Prelude.{ℕ, zero, suc, ◌+◌, ◌-◌, Option, Some, None, Bool, true, false, nat_lt, bit_and}
use Rattle.st_model.specs.declared.dead.Dead.TheVariants as dead
use Rattle.st_model.specs.Values.{Value, Small, Ref}
use Rattle.st_model.specs.Objects.{Object, NilObject}
use Rattle.st_model.specs.Machine.{ObjectMemory, Went, Step, answer, die, ◌>>=◌, ◌>>◌}
use Rattle.st_model.specs.Steps.{of_page, check, fetch_field, count_fields, same_value}
use Rattle.st_model.specs.Methods.{method_header}

-- nil is no class: there the search ends without a method
unfoldable pub unless_nil : {H : Type 0} → Bool → Step H (Option Value) → Step H (Option Value)
unless_nil true otherwise = answer None
unless_nil false otherwise = otherwise

module _ {H : Type 0} (m : ObjectMemory H) where
  abbrev pub pointer_if : H → ℕ → Option Object → ℕ
  pointer_if h n None = 0
  pointer_if h n (Some o) = m.pointer h n

  -- a word halved: the 15 bits of a SmallInteger, or half of the pointer of an object that is there
  unfoldable pub half_word : Value → Step H ℕ
  half_word (Small n) = answer n
  half_word (Ref n) = record { run = λ s. Went (pointer_if s.memory n (m.read s.memory n)) s }

  -- what was found is a method
  unfoldable pub checked_method : Value → Step H (Option Value)
  checked_method method = do
    header ← method_header m method
    answer (Some method)

  unfoldable pub method_at : Value → ℕ → Step H (Option Value)
  method_at dictionary k = do
    methods ← fetch_field m dictionary 1
    method ← fetch_field m methods k
    checked_method method

  -- place k holds the selector, or else nil, or neither
  unfoldable pub place_says : Value → ℕ → Bool → Bool → Step H (Option Value) → Step H (Option Value)
  place_says dictionary k true is_nil otherwise = method_at dictionary k
  place_says dictionary k false true otherwise = answer None
  place_says dictionary k false false otherwise = otherwise

  -- the search ends at place k where that holds the selector or nil
  unfoldable pub look_at_place : Value → Value → ℕ → Step H (Option Value) → Step H (Option Value)
  look_at_place dictionary selector k otherwise = do
    s ← fetch_field m dictionary (2 + k)
    nil ← of_page m NilObject
    place_says dictionary k (same_value s selector) (same_value s nil) otherwise

  -- the same at so many places from k on
  unfoldable pub look_at_places : Value → Value → ℕ → ℕ → Step H (Option Value) → Step H (Option Value)
  look_at_places dictionary selector k zero otherwise = otherwise
  look_at_places dictionary selector k (suc left) otherwise =
      look_at_place dictionary selector k (look_at_places dictionary selector (suc k) left otherwise)

  -- from the place where it begins the search goes up to the last one, and then from place 0 up to the last one again
  unfoldable pub search_from : Value → Value → ℕ → ℕ → Step H (Option Value)
  search_from dictionary selector places start =
      look_at_places dictionary selector start (places - start) (look_at_places dictionary selector 0 places (answer None))

  -- it begins at half of the selector's word, masked by the number of places less 1
  unfoldable pub search_dictionary : Value → Value → ℕ → Step H (Option Value)
  search_dictionary dictionary selector places = do
    half ← half_word selector
    search_from dictionary selector places (bit_and half (places - 1))

  -- what was found, or what the superclass gives
  unfoldable pub or_above : Value → Option Value → (Value → Step H (Option Value)) → Step H (Option Value)
  or_above class (Some method) otherwise = answer (Some method)
  or_above class None otherwise = fetch_field m class 0 >>= otherwise

  -- what the class itself gives, whose dictionary must have places
  unfoldable pub method_in_class : Value → Value → Step H (Option Value)
  method_in_class class selector = do
    dictionary ← fetch_field m class 1
    fields ← count_fields m dictionary
    check dead.Places (nat_lt 2 fields)
    search_dictionary dictionary selector (fields - 2)

  -- what the class gives, or else its superclass
  unfoldable pub look_in_class : Value → Value → (Value → Step H (Option Value)) → Step H (Option Value)
  look_in_class class selector otherwise = do
    method ← method_in_class class selector
    or_above class method otherwise

  unfoldable pub end_at_nil : Value → Step H (Option Value) → Step H (Option Value)
  end_at_nil class otherwise = do
    nil ← of_page m NilObject
    unless_nil (same_value class nil) otherwise

  -- in so many classes of the superclass chain, and no more
  unfoldable pub find_within : Value → ℕ → Value → Step H (Option Value)
  find_within selector zero class = end_at_nil class (die dead.Chain)
  find_within selector (suc left) class = end_at_nil class (look_in_class class selector (find_within selector left))

  -- the method for the selector in the class, or in the nearest superclass that has one; a chain has fewer than 32768 classes
  unfoldable pub find : Value → Value → Step H (Option Value)
  find class selector = find_within selector 32767 class
