-- Method dictionaries (chapter 27): where the search for a selector ends, and how a dictionary grows. Field 0 of a dictionary is
-- its tally, field 1 its Array of methods, and from field 2 on stand the places for selectors.
use Rattle.std.specs.Prelude.{ℕ, zero, suc, ◌+◌, ◌-◌, ◌*◌, ◌%◌, ◌==◌, List, [], ◌∷◌, replicate, Bool, true, false, nat_le, bit_and, if◌then◌else◌}
use Rattle.st_model.specs.declared.dead.Dead.TheVariants as dead
use Rattle.st_model.specs.Values.{Value, Small, Ref}
use Rattle.st_model.specs.declared.page.PageObject.TheVariants.{NilObject, ArrayClass}
use Rattle.st_model.specs.Machine.{ObjectMemory, Step, answer, die, ◌>>=◌, ◌>>◌}
use Rattle.st_model.specs.Steps.{of_page, class_of, same_value, fetch_field, store_field, count_fields}
use Rattle.st_model.specs.Lookup.{half_word}
use Rattle.st_install.specs.Plans.{PlannedValue, There, Made, NewObject, pointers_object}

-- the search ends at a place that holds what is sought, or at nil, or it has gone through all places
pub data Ending : Type 0 where
  Holds : ℕ → Ending
  Vacant : ℕ → Ending
  Nowhere : Ending

unfoldable pub ends_at : {H : Type 0} → ℕ → (is_sought is_nil : Bool) → Step H Ending → Step H Ending
ends_at k true is_nil otherwise = answer (Holds k)
ends_at k false true otherwise = answer (Vacant k)
ends_at k false false otherwise = otherwise

-- a count, with one more where this is so
abbrev pub one_more_if : Bool → ℕ → ℕ
one_more_if true n = suc n
one_more_if false n = n

-- a dictionary of a class, with a tally and so many places, and then its Array of methods, which is object number next
abbrev pub dictionary_objects : (class tally array_class nil : Value) → (places next : ℕ) → List NewObject
dictionary_objects class tally array_class nil places next =
    pointers_object class (There tally ∷ Made next ∷ replicate places (There nil)) ∷ pointers_object array_class (replicate places (There nil)) ∷ []

-- one more, but 16383 stays; no tally is anything but a SmallInteger
abbrev pub raised_tally : Value → Value
raised_tally (Small n) = if n == 16383 then Small n else Small ((n + 1) % 32768)
raised_tally (Ref n) = Ref n

module _ {H : Type 0} (m : ObjectMemory H) where
  -- PLACES

  unfoldable pub seek_at : Value → Value → ℕ → Step H Ending → Step H Ending
  seek_at dictionary sought k otherwise = do
    s ← fetch_field m dictionary (2 + k)
    nil ← of_page m NilObject
    ends_at k (same_value s sought) (same_value s nil) otherwise

  -- at so many places from k on
  unfoldable pub seek_among : Value → Value → ℕ → ℕ → Step H Ending → Step H Ending
  seek_among dictionary sought k zero otherwise = otherwise
  seek_among dictionary sought k (suc left) otherwise = seek_at dictionary sought k (seek_among dictionary sought (suc k) left otherwise)

  -- from the start up to the last place, and then from place 0 up to the start
  unfoldable pub seek_from : Value → Value → ℕ → ℕ → Step H Ending
  seek_from dictionary sought places start =
      seek_among dictionary sought start (places - start) (seek_among dictionary sought 0 start (answer Nowhere))

  -- how many places a dictionary has
  unfoldable pub count_places : Value → Step H ℕ
  count_places dictionary = do
    n ← count_fields m dictionary
    answer (n - 2)

  -- what is sought from the start of a selector, half of whose pointer is masked by the number of places less 1
  unfoldable pub seek : Value → Value → Value → Step H Ending
  seek dictionary sought selector = do
    places ← count_places dictionary
    half ← half_word m selector
    seek_from dictionary sought places (bit_and half (places - 1))

  -- where the search for a selector ends
  unfoldable pub place_of_selector : Value → Value → Step H Ending
  place_of_selector dictionary selector = seek dictionary selector selector

  -- GROWTH

  -- of so many places from k on, those that hold nil
  unfoldable pub count_vacant : Value → ℕ → ℕ → Step H ℕ
  count_vacant dictionary k zero = answer 0
  count_vacant dictionary k (suc left) = do
    s ← fetch_field m dictionary (2 + k)
    nil ← of_page m NilObject
    n ← count_vacant dictionary (suc k) left
    answer (one_more_if (same_value s nil) n)

  -- with one selector more no place would hold nil
  unfoldable pub is_nearly_full : Value → Step H Bool
  is_nearly_full dictionary = do
    places ← count_places dictionary
    n ← count_vacant dictionary 0 places
    answer (nat_le n 1)

  unfoldable pub grows_at : Value → Ending → Step H Bool
  grows_at dictionary (Holds k) = answer false
  grows_at dictionary _ = is_nearly_full dictionary

  -- Whether the dictionary grows for a selector: where that is added to it and would leave no place of nil. It has no Symbol that is
  -- made only now.
  unfoldable pub grows_for : Value → PlannedValue → Step H Bool
  grows_for dictionary (Made k) = is_nearly_full dictionary
  grows_for dictionary (There selector) = place_of_selector dictionary selector >>= grows_at dictionary

  -- a dictionary of the same class, with the same tally and twice the places, which is object number next
  unfoldable pub grown_objects : Value → ℕ → Step H (List NewObject)
  grown_objects dictionary next = do
    class ← class_of m dictionary
    tally ← fetch_field m dictionary 0
    places ← count_places dictionary
    array_class ← of_page m ArrayClass
    nil ← of_page m NilObject
    answer (dictionary_objects class tally array_class nil (2 * places) (next + 1))

  -- ADDITION

  -- a selector and its method, at place k
  unfoldable pub put_method : Value → Value → ℕ → Value → Value → Step H Unit
  put_method dictionary methods k selector method = do
    store_field m dictionary (2 + k) selector
    store_field m methods k method

  unfoldable pub put_at : Value → Value → Value → Ending → Step H Unit
  put_at dictionary selector method (Holds k) = do
    methods ← fetch_field m dictionary 1
    put_method dictionary methods k selector method
  put_at dictionary selector method _ = die dead.Places

  -- REFILLING

  unfoldable pub refill_unless : Value → Value → ℕ → Value → Bool → Step H Unit
  refill_unless old new k selector true = answer tt
  refill_unless old new k selector false = do
    methods ← fetch_field m old 1
    method ← fetch_field m methods k
    nil ← of_page m NilObject
    end ← seek new nil selector
    put_at new selector method end

  -- what stands at a place of the old dictionary goes to the first place of nil in the new one, from its own start
  unfoldable pub refill_from : Value → Value → ℕ → Step H Unit
  refill_from old new k = do
    selector ← fetch_field m old (2 + k)
    nil ← of_page m NilObject
    refill_unless old new k selector (same_value selector nil)

  -- so many places from k on, one after the other
  unfoldable pub refill_among : Value → Value → ℕ → ℕ → Step H Unit
  refill_among old new k zero = answer tt
  refill_among old new k (suc left) = refill_from old new k >> refill_among old new (suc k) left

  unfoldable pub refill : Value → Value → Step H Unit
  refill old new = count_places old >>= refill_among old new 0
