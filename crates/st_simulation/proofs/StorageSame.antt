-- Primitives on objects over births do the same over pointers: the numbers and fields that they use, their conditions, and
-- their effects.
use Rattle.std.proofs.Common.{◌≡◌, ℕ, Bool, true, false, refl, ap}
use Rattle.std.specs.Prelude.{ℤ, pos, negsuc, not}
use Rattle.st_model.specs.declared.primitive.StoragePrimitive.{StoragePrimitive}
use Rattle.st_model.specs.declared.primitive.StoragePrimitive.TheVariants as named
use Rattle.st_model.specs.declared.kind.Kind.{Kind}
use Rattle.st_model.specs.declared.kind.Kind.TheVariants as kind
use Rattle.st_model.specs.Values.{Value, Small, Ref}
use Rattle.st_model.specs.declared.page.PageObject.{PageObject}
use Rattle.st_model.specs.Machine.{ObjectMemory}
use Rattle.st_model.specs.Primitives.{check_class, check_bytes, byte_or_die, large_value, positive_value, new_large, number, number_of, specification, fixed_of_class, fixed_by, fixed_fields}
use Rattle.st_model.specs.Storage.{count_literals, first_by, first_place, place_of_element, place_at, place_behind_fixed, word_number, byte_number, element_by, fetch_element, word_of_value, unit_by, unit_of_element, store_by, store_element, Storing, storing_at, store_and_answer, primitive_at, storing_behind_fixed, primitive_at_put, count_elements, primitive_size, fetch_character, place_in_bytes, character_at, primitive_string_at, character_byte, character_storing_at, storing_character, primitive_string_at_put, characters_or_not, has_characters, place_of_object, place_of_character, stream_place, position_below, Standing, standing_at, stream_standing, stream_element, take_next, primitive_next, stream_unit, Putting, putting_at, stream_putting, put_next, primitive_next_put, is_at_end, primitive_at_end, method_place, place_in_method, header_or_literal, primitive_object_at, check_header, check_method_field, place_to_store, store_in_method, primitive_object_at_put, check_not_method_class, fixed_specification, primitive_new, checked_shape, indexed_shape, primitive_new_with, check_object, check_objects, exchange_and_answer, primitive_become, primitive_instance_variable_at, storing_by_index, primitive_instance_variable_at_put, half_pointer, primitive_as_oop, kept_object_at, primitive_as_object, first_kept_instance, primitive_some_instance, instance_after, primitive_next_instance, MethodShape, method_shape, new_method, primitive_new_method, Replacing, checked_replacing, replacing, replace_and_answer, primitive_replace, primitive_core_left, primitive_oops_left, primitive_say, storage}
use Rattle.st_simulation.proofs.Same.{Simulation, ValueSame, SameValue, SameAnswer, steps_same}
use Rattle.st_simulation.proofs.StepsSame.{parts_same, get_free-same}
use Rattle.st_simulation.proofs.ContextsSame.{headers_same}
use Rattle.st_simulation.proofs.LookupSame.{half_word-same}
use Rattle.st_simulation.proofs.PrimitivesSame.{bits_or_die-same, positive_small-same, primitive-same, primitive_value-same, truth-same}
use Rattle.st_simulation.proofs.BitBltSame.{copy_bits-same}

-- what conditions are made of; nothing is made
module _ {H K : Type 0} {M : ObjectMemory H} {N : ObjectMemory K} (sim : Simulation M N) where
  not-same : (b c : Bool) → c ≡ b → not c ≡ not b
  not-same b c e = ap not e

  pub check_class-same : (v w : Value) (q : PageObject) → ValueSame sim v w → SameAnswer sim (check_class M v q) (check_class N w q)
  unfolding check_class
  check_class-same v w q h = search parts_same depth 24 fits 4000

  pub check_bytes-same : (v w : Value) → ValueSame sim v w → SameAnswer sim (check_bytes M v) (check_bytes N w)
  unfolding check_bytes
  check_bytes-same v w h = search parts_same depth 24 fits 4000

  byte_or_die-same : (v w : Value) → ValueSame sim v w → SameAnswer sim (byte_or_die v) (byte_or_die w)
  unfolding byte_or_die
  byte_or_die-same v w h = search (parts_same, bits_or_die-same) depth 24 fits 4000

  large_value-same : (most : ℕ) (v w : Value) → ValueSame sim v w → SameAnswer sim (large_value M most v) (large_value N most w)
  unfolding large_value
  large_value-same most v w h = search (parts_same, check_class-same, check_bytes-same) depth 32 fits 4000

  pub positive_value-same : (most : ℕ) (v w : Value) → ValueSame sim v w → SameAnswer sim (positive_value M most v) (positive_value N most w)
  unfolding positive_value
  positive_value-same most (Small n) w h = rw h.is (positive_small-same sim (Small n) (Small n) (record { live = tt; is = refl }))
  positive_value-same most (Ref n) w h = rw h.is (large_value-same most (Ref n) (Ref (sim.name n)) (record { live = h.live; is = refl }))

  specification-same : (v w : Value) → ValueSame sim v w → SameAnswer sim (specification M v) (specification N w)
  unfolding specification
  specification-same v w h = search (parts_same, bits_or_die-same) depth 24 fits 4000

  fixed_by-same : (v w : Value) (b : Bool) → ValueSame sim v w → SameAnswer sim (fixed_by M v b) (fixed_by N w b)
  unfolding fixed_by fixed_of_class
  fixed_by-same v w true h = search (parts_same, specification-same) depth 24 fits 4000
  fixed_by-same v w false h = search steps_same

  fixed_fields-same : (v w : Value) → ValueSame sim v w → SameAnswer sim (fixed_fields M v) (fixed_fields N w)
  unfolding fixed_fields
  fixed_fields-same v w h = search (parts_same, fixed_by-same) depth 24 fits 4000

  ruleset numbers_same = (parts_same, half_word-same, check_class-same, check_bytes-same, bits_or_die-same, positive_small-same, byte_or_die-same, positive_value-same, specification-same, fixed_fields-same)

  count_literals-same : (v w : Value) → ValueSame sim v w → SameAnswer sim (count_literals M v) (count_literals N w)
  unfolding count_literals
  count_literals-same v w h = search (headers_same, bits_or_die-same) depth 24 fits 4000

  first_by-same : (v w : Value) (b : Bool) → ValueSame sim v w → SameAnswer sim (first_by M v b) (first_by N w b)
  unfolding first_by
  first_by-same v w true h = search (steps_same, count_literals-same) depth 24 fits 4000
  first_by-same v w false h = search steps_same

  place_of_element-same : (v w : Value) (fixed i : ℕ) → ValueSame sim v w → SameAnswer sim (place_of_element M v fixed i) (place_of_element N w fixed i)
  unfolding place_of_element first_place
  place_of_element-same v w fixed i h = search (numbers_same, first_by-same) depth 32 fits 4000

  place_at-same : (v w : Value) (fixed : ℕ) (x y : Value) → ValueSame sim v w → ValueSame sim x y → SameAnswer sim (place_at M v fixed x) (place_at N w fixed y)
  unfolding place_at
  place_at-same v w fixed x y h k = search (numbers_same, place_of_element-same) depth 24 fits 4000

  place_behind_fixed-same : (v w x y : Value) → ValueSame sim v w → ValueSame sim x y → SameAnswer sim (place_behind_fixed M v x) (place_behind_fixed N w y)
  unfolding place_behind_fixed
  place_behind_fixed-same v w x y h k = search (numbers_same, place_at-same) depth 24 fits 4000

  unit_by-same : (x y : Value) (k : Kind) → ValueSame sim x y → SameAnswer sim (unit_by M x k) (unit_by N y k)
  unfolding unit_by word_of_value
  unit_by-same x y kind.Pointers h = search steps_same
  unit_by-same x y kind.Words h = search numbers_same depth 24 fits 4000
  unit_by-same x y kind.Bytes h = search numbers_same depth 24 fits 4000
  unit_by-same x y kind.Method h = search numbers_same depth 24 fits 4000

  unit_of_element-same : (v w x y : Value) → ValueSame sim v w → ValueSame sim x y → SameAnswer sim (unit_of_element M v x) (unit_of_element N w y)
  unfolding unit_of_element
  unit_of_element-same v w x y h k = search (numbers_same, unit_by-same) depth 24 fits 4000

  storing_at-same : (v w x y : Value) (i : ℕ) → ValueSame sim v w → ValueSame sim x y → SameAnswer sim (storing_at M v x i) (storing_at N w y i)
  unfolding storing_at
  storing_at-same v w x y i h k = search (numbers_same, unit_of_element-same) depth 24 fits 4000

  storing_behind_fixed-same : (r s a b x y : Value) → ValueSame sim r s → ValueSame sim a b → ValueSame sim x y → SameAnswer sim (storing_behind_fixed M r a x) (storing_behind_fixed N s b y)
  unfolding storing_behind_fixed
  storing_behind_fixed-same r s a b x y h k l = search (numbers_same, place_behind_fixed-same, storing_at-same) depth 24 fits 4000

  storing_by_index-same : (r s a b x y : Value) → ValueSame sim r s → ValueSame sim a b → ValueSame sim x y → SameAnswer sim (storing_by_index M r a x) (storing_by_index N s b y)
  unfolding storing_by_index
  storing_by_index-same r s a b x y h k l = search (numbers_same, place_at-same, storing_at-same) depth 24 fits 4000

  count_elements-same : (v w : Value) → ValueSame sim v w → SameAnswer sim (count_elements M v) (count_elements N w)
  unfolding count_elements
  count_elements-same v w h = search numbers_same depth 24 fits 4000

  fetch_character-same : (v w : Value) (i : ℕ) → ValueSame sim v w → SameValue sim (fetch_character M v i) (fetch_character N w i)
  unfolding fetch_character
  fetch_character-same v w i h = search numbers_same depth 24 fits 4000

  place_in_bytes-same : (v w x y : Value) → ValueSame sim v w → ValueSame sim x y → SameAnswer sim (place_in_bytes M v x) (place_in_bytes N w y)
  unfolding place_in_bytes
  place_in_bytes-same v w x y h k = search (numbers_same, place_at-same) depth 24 fits 4000

  character_at-same : (v w x y : Value) → ValueSame sim v w → ValueSame sim x y → SameValue sim (character_at M v x) (character_at N w y)
  unfolding character_at
  character_at-same v w x y h k = search (numbers_same, place_in_bytes-same, fetch_character-same) depth 24 fits 4000

  character_byte-same : (v w : Value) → ValueSame sim v w → SameAnswer sim (character_byte M v) (character_byte N w)
  unfolding character_byte
  character_byte-same v w h = search numbers_same depth 24 fits 4000

  storing_character-same : (r s a b x y : Value) → ValueSame sim r s → ValueSame sim a b → ValueSame sim x y → SameAnswer sim (storing_character M r a x) (storing_character N s b y)
  unfolding storing_character character_storing_at
  storing_character-same r s a b x y h k l = search (numbers_same, place_in_bytes-same, character_byte-same) depth 24 fits 4000

  characters_or_not-same : (a b c d : Bool) → c ≡ a → d ≡ b → SameAnswer sim (characters_or_not a b) (characters_or_not c d)
  unfolding characters_or_not
  characters_or_not-same true b c d e f = rw e (search steps_same)
  characters_or_not-same false true c d e f = rw (e, f) (search steps_same)
  characters_or_not-same false false c d e f = rw (e, f) (search steps_same)

  has_characters-same : (v w : Value) → ValueSame sim v w → SameAnswer sim (has_characters M v) (has_characters N w)
  unfolding has_characters
  has_characters-same v w h = search (numbers_same, characters_or_not-same) depth 24 fits 4000

  stream_place-same : (v w : Value) (i : ℕ) (b : Bool) → ValueSame sim v w → SameAnswer sim (stream_place M v i b) (stream_place N w i b)
  unfolding stream_place place_of_character place_of_object
  stream_place-same v w i true h = search (numbers_same, place_of_element-same, fetch_character-same) depth 24 fits 4000
  stream_place-same v w i false h = search (numbers_same, place_of_element-same) depth 24 fits 4000

  position_below-same : (v w : Value) (i : ℕ) → ValueSame sim v w → SameAnswer sim (position_below M v i) (position_below N w i)
  unfolding position_below
  position_below-same v w i h = search numbers_same depth 32 fits 4000

  stream_standing-same : (v w : Value) (i : ℕ) → ValueSame sim v w → SameAnswer sim (stream_standing M v i) (stream_standing N w i)
  unfolding stream_standing standing_at
  stream_standing-same v w i h = search (numbers_same, has_characters-same, position_below-same, stream_place-same) depth 32 fits 4000

  stream_unit-same : (v w x y : Value) (b : Bool) → ValueSame sim v w → ValueSame sim x y → SameAnswer sim (stream_unit M v x b) (stream_unit N w y b)
  unfolding stream_unit
  stream_unit-same v w x y true h k = character_byte-same x y k
  stream_unit-same v w x y false h k = unit_of_element-same v w x y h k

  stream_putting-same : (v w x y : Value) → ValueSame sim v w → ValueSame sim x y → SameAnswer sim (stream_putting M v x) (stream_putting N w y)
  unfolding stream_putting putting_at
  stream_putting-same v w x y h k = search (numbers_same, stream_standing-same, stream_unit-same) depth 32 fits 4000

  is_at_end-same : (v w : Value) → ValueSame sim v w → SameAnswer sim (is_at_end M v) (is_at_end N w)
  unfolding is_at_end
  is_at_end-same v w h = search (numbers_same, has_characters-same) depth 32 fits 4000

  header_or_literal-same : (v w x y : Value) → ValueSame sim v w → ValueSame sim x y → SameValue sim (header_or_literal M v x) (header_or_literal N w y)
  unfolding header_or_literal place_in_method method_place
  header_or_literal-same v w x y h k = search (numbers_same, count_literals-same) depth 40 fits 4000

  check_header-same : (v w x y : Value) → ValueSame sim v w → ValueSame sim x y → SameAnswer sim (check_header M v x) (check_header N w y)
  unfolding check_header
  check_header-same v w x y h k = search (numbers_same, count_literals-same) depth 32 fits 4000

  check_method_field-same : (v w x y : Value) (b : Bool) → ValueSame sim v w → ValueSame sim x y → SameAnswer sim (check_method_field M v x b) (check_method_field N w y b)
  unfolding check_method_field
  check_method_field-same v w x y true h k = check_header-same v w x y h k
  check_method_field-same v w x y false h k = search steps_same

  place_to_store-same : (r s a b x y : Value) → ValueSame sim r s → ValueSame sim a b → ValueSame sim x y → SameAnswer sim (place_to_store M r a x) (place_to_store N s b y)
  unfolding place_to_store place_in_method method_place
  place_to_store-same r s a b x y h k l = search (numbers_same, count_literals-same, check_method_field-same) depth 40 fits 4000

  fixed_specification-same : (v w : Value) → ValueSame sim v w → SameAnswer sim (fixed_specification M v) (fixed_specification N w)
  unfolding fixed_specification check_not_method_class
  fixed_specification-same v w h = search (numbers_same, not-same) depth 32 fits 4000

  indexed_shape-same : (v w x y : Value) → ValueSame sim v w → ValueSame sim x y → SameAnswer sim (indexed_shape M v x) (indexed_shape N w y)
  unfolding indexed_shape checked_shape check_not_method_class
  indexed_shape-same v w x y h k = search (numbers_same, not-same) depth 40 fits 4000

  check_objects-same : (v w x y : Value) → ValueSame sim v w → ValueSame sim x y → SameAnswer sim (check_objects M v x) (check_objects N w y)
  unfolding check_objects check_object
  check_objects-same v w x y h k = search numbers_same depth 24 fits 4000

  half_pointer-same : (v w : Value) → ValueSame sim v w → SameAnswer sim (half_pointer M v) (half_pointer N w)
  unfolding half_pointer check_object
  half_pointer-same v w h = search numbers_same depth 24 fits 4000

  kept_object_at-same : (v w : Value) → ValueSame sim v w → SameValue sim (kept_object_at M v) (kept_object_at N w)
  unfolding kept_object_at
  kept_object_at-same v w h = search numbers_same depth 24 fits 4000

  first_kept_instance-same : (v w : Value) → ValueSame sim v w → SameValue sim (first_kept_instance M v) (first_kept_instance N w)
  unfolding first_kept_instance
  first_kept_instance-same v w h = search numbers_same depth 24 fits 4000

  instance_after-same : (v w : Value) → ValueSame sim v w → SameValue sim (instance_after M v) (instance_after N w)
  unfolding instance_after
  instance_after-same v w h = search (numbers_same, half_pointer-same) depth 24 fits 4000

  method_shape-same : (r s a b x y : Value) → ValueSame sim r s → ValueSame sim a b → ValueSame sim x y → SameAnswer sim (method_shape M r a x) (method_shape N s b y)
  unfolding method_shape
  method_shape-same r s a b x y h k l = search numbers_same depth 32 fits 4000

  checked_replacing-same : (r s c d : Value) (p : Replacing) → ValueSame sim r s → ValueSame sim c d → SameAnswer sim (checked_replacing M r c p) (checked_replacing N s d p)
  unfolding checked_replacing
  checked_replacing-same r s c d p h k = search numbers_same depth 32 fits 4000

  replacing-same : (r s a a' b b' c c' d d' : Value) → ValueSame sim r s → ValueSame sim a a' → ValueSame sim b b' → ValueSame sim c c' → ValueSame sim d d'
      → SameAnswer sim (replacing M r a b c d) (replacing N s a' b' c' d')
  unfolding replacing
  replacing-same r s a a' b b' c c' d d' h i j k l = search (numbers_same, checked_replacing-same) depth 32 fits 4000

  ruleset conditions_same = (place_behind_fixed-same, place_at-same, storing_behind_fixed-same, storing_by_index-same, count_elements-same, character_at-same, storing_character-same, stream_standing-same, stream_putting-same, is_at_end-same, header_or_literal-same, place_to_store-same, fixed_specification-same, indexed_shape-same, check_objects-same, half_pointer-same, kept_object_at-same, first_kept_instance-same, instance_after-same, method_shape-same, replacing-same, check_bytes-same, get_free-same)

-- effects
module _ {H K : Type 0} {M : ObjectMemory H} {N : ObjectMemory K} (sim : Simulation M N) (makes : sim.makes) where
  pub number-same : (k : ℕ) → SameValue sim (number M k) (number N k)
  unfolding number new_large
  number-same k = search parts_same depth 24 fits 4000

  number_of-same : (n : ℤ) → SameValue sim (number_of M n) (number_of N n)
  unfolding number_of
  number_of-same (pos k) = number-same k
  number_of-same (negsuc k) = search steps_same

  element_by-same : (v w : Value) (i : ℕ) (k : Kind) → ValueSame sim v w → SameValue sim (element_by M v i k) (element_by N w i k)
  unfolding element_by word_number byte_number
  element_by-same v w i kind.Pointers h = search parts_same depth 24 fits 4000
  element_by-same v w i kind.Words h = search (parts_same, number-same) depth 24 fits 4000
  element_by-same v w i kind.Bytes h = search parts_same depth 24 fits 4000
  element_by-same v w i kind.Method h = search parts_same depth 24 fits 4000

  fetch_element-same : (v w : Value) (i : ℕ) → ValueSame sim v w → SameValue sim (fetch_element M v i) (fetch_element N w i)
  unfolding fetch_element
  fetch_element-same v w i h = search (parts_same, element_by-same) depth 24 fits 4000

  store_by-same : (v w : Value) (i : ℕ) (x y : Value) (u : ℕ) (k : Kind) → ValueSame sim v w → ValueSame sim x y → SameAnswer sim (store_by M v i x u k) (store_by N w i y u k)
  unfolding store_by
  store_by-same v w i x y u kind.Pointers h l = search parts_same depth 24 fits 4000
  store_by-same v w i x y u kind.Words h l = search parts_same depth 24 fits 4000
  store_by-same v w i x y u kind.Bytes h l = search parts_same depth 24 fits 4000
  store_by-same v w i x y u kind.Method h l = search parts_same depth 24 fits 4000

  store_element-same : (v w : Value) (i : ℕ) (x y : Value) (u : ℕ) → ValueSame sim v w → ValueSame sim x y → SameAnswer sim (store_element M v i x u) (store_element N w i y u)
  unfolding store_element
  store_element-same v w i x y u h l = search (parts_same, store_by-same) depth 24 fits 4000

  store_and_answer-same : (v w x y : Value) (s : Storing) → ValueSame sim v w → ValueSame sim x y → SameValue sim (store_and_answer M v x s) (store_and_answer N w y s)
  unfolding store_and_answer
  store_and_answer-same v w x y s h l = search (parts_same, store_element-same) depth 24 fits 4000

  stream_element-same : (v w : Value) (i : ℕ) (b : Bool) → ValueSame sim v w → SameValue sim (stream_element M v i b) (stream_element N w i b)
  unfolding stream_element
  stream_element-same v w i true h = fetch_character-same sim v w i h
  stream_element-same v w i false h = fetch_element-same v w i h

  take_next-same : (v w : Value) (s : Standing) → ValueSame sim v w → SameValue sim (take_next M v s) (take_next N w s)
  unfolding take_next
  take_next-same v w s h = search (parts_same, stream_element-same) depth 24 fits 4000

  put_next-same : (v w x y : Value) (p : Putting) → ValueSame sim v w → ValueSame sim x y → SameValue sim (put_next M v x p) (put_next N w y p)
  unfolding put_next
  put_next-same v w x y p h l = search (parts_same, store_element-same) depth 24 fits 4000

  store_in_method-same : (v w x y : Value) (i : ℕ) → ValueSame sim v w → ValueSame sim x y → SameValue sim (store_in_method M v x i) (store_in_method N w y i)
  unfolding store_in_method
  store_in_method-same v w x y i h l = search parts_same depth 24 fits 4000

  exchange_and_answer-same : (v w x y : Value) → ValueSame sim v w → ValueSame sim x y → SameValue sim (exchange_and_answer M v x) (exchange_and_answer N w y)
  unfolding exchange_and_answer
  exchange_and_answer-same v w x y h l = search parts_same depth 24 fits 4000

  new_method-same : (v w : Value) (s : MethodShape) → ValueSame sim v w → SameValue sim (new_method M v s) (new_method N w s)
  unfolding new_method
  new_method-same v w s h = search (parts_same, check_header-same) depth 24 fits 4000

  replace_and_answer-same : (v w x y : Value) (p : Replacing) → ValueSame sim v w → ValueSame sim x y → SameValue sim (replace_and_answer M v x p) (replace_and_answer N w y p)
  unfolding replace_and_answer
  replace_and_answer-same v w x y p h l = search parts_same depth 24 fits 4000

  ruleset effects_same = (number-same, number_of-same, fetch_element-same, store_and_answer-same, take_next-same, put_next-same, store_in_method-same, exchange_and_answer-same, new_method-same, replace_and_answer-same)

  ruleset primitives_same = (parts_same, primitive-same, primitive_value-same, effects_same, conditions_same, truth-same)

  pub say-same : (v w : Value) → ValueSame sim v w → SameAnswer sim (primitive_say M v) (primitive_say N w)
  unfolding primitive_say
  say-same v w h = search primitives_same depth 24 fits 4000

  at-same : SameAnswer sim (primitive_at M) (primitive_at N)
  unfolding primitive_at
  at-same = search primitives_same depth 24 fits 4000

  at_put-same : SameAnswer sim (primitive_at_put M) (primitive_at_put N)
  unfolding primitive_at_put
  at_put-same = search primitives_same depth 24 fits 4000

  size-same : SameAnswer sim (primitive_size M) (primitive_size N)
  unfolding primitive_size
  size-same = search primitives_same depth 24 fits 4000

  string_at-same : SameAnswer sim (primitive_string_at M) (primitive_string_at N)
  unfolding primitive_string_at
  string_at-same = search primitives_same depth 24 fits 4000

  string_at_put-same : SameAnswer sim (primitive_string_at_put M) (primitive_string_at_put N)
  unfolding primitive_string_at_put
  string_at_put-same = search primitives_same depth 24 fits 4000

  next-same : SameAnswer sim (primitive_next M) (primitive_next N)
  unfolding primitive_next
  next-same = search primitives_same depth 24 fits 4000

  next_put-same : SameAnswer sim (primitive_next_put M) (primitive_next_put N)
  unfolding primitive_next_put
  next_put-same = search primitives_same depth 24 fits 4000

  at_end-same : SameAnswer sim (primitive_at_end M) (primitive_at_end N)
  unfolding primitive_at_end
  at_end-same = search primitives_same depth 24 fits 4000

  object_at-same : SameAnswer sim (primitive_object_at M) (primitive_object_at N)
  unfolding primitive_object_at
  object_at-same = search primitives_same depth 24 fits 4000

  object_at_put-same : SameAnswer sim (primitive_object_at_put M) (primitive_object_at_put N)
  unfolding primitive_object_at_put
  object_at_put-same = search primitives_same depth 24 fits 4000

  new-same : SameAnswer sim (primitive_new M) (primitive_new N)
  unfolding primitive_new
  new-same = search primitives_same depth 24 fits 4000

  new_with-same : SameAnswer sim (primitive_new_with M) (primitive_new_with N)
  unfolding primitive_new_with
  new_with-same = search primitives_same depth 24 fits 4000

  become-same : SameAnswer sim (primitive_become M) (primitive_become N)
  unfolding primitive_become
  become-same = search primitives_same depth 24 fits 4000

  instance_variable_at-same : SameAnswer sim (primitive_instance_variable_at M) (primitive_instance_variable_at N)
  unfolding primitive_instance_variable_at
  instance_variable_at-same = search primitives_same depth 24 fits 4000

  instance_variable_at_put-same : SameAnswer sim (primitive_instance_variable_at_put M) (primitive_instance_variable_at_put N)
  unfolding primitive_instance_variable_at_put
  instance_variable_at_put-same = search primitives_same depth 24 fits 4000

  as_oop-same : SameAnswer sim (primitive_as_oop M) (primitive_as_oop N)
  unfolding primitive_as_oop
  as_oop-same = search primitives_same depth 24 fits 4000

  as_object-same : SameAnswer sim (primitive_as_object M) (primitive_as_object N)
  unfolding primitive_as_object
  as_object-same = search primitives_same depth 24 fits 4000

  some_instance-same : SameAnswer sim (primitive_some_instance M) (primitive_some_instance N)
  unfolding primitive_some_instance
  some_instance-same = search primitives_same depth 24 fits 4000

  next_instance-same : SameAnswer sim (primitive_next_instance M) (primitive_next_instance N)
  unfolding primitive_next_instance
  next_instance-same = search primitives_same depth 24 fits 4000

  new_method_primitive-same : SameAnswer sim (primitive_new_method M) (primitive_new_method N)
  unfolding primitive_new_method
  new_method_primitive-same = search primitives_same depth 24 fits 4000

  replace-same : SameAnswer sim (primitive_replace M) (primitive_replace N)
  unfolding primitive_replace
  replace-same = search primitives_same depth 24 fits 4000

  core_left-same : SameAnswer sim (primitive_core_left M) (primitive_core_left N)
  unfolding primitive_core_left
  core_left-same = search primitives_same depth 24 fits 4000

  oops_left-same : SameAnswer sim (primitive_oops_left M) (primitive_oops_left N)
  unfolding primitive_oops_left
  oops_left-same = search primitives_same depth 24 fits 4000

  ruleset primitives_on_objects = (steps_same, at_put-same, size-same, string_at-same, string_at_put-same, next-same, next_put-same, at_end-same, object_at-same, object_at_put-same, new-same, new_with-same, become-same, instance_variable_at-same, instance_variable_at_put-same, as_oop-same, as_object-same, some_instance-same, next_instance-same, new_method_primitive-same, copy_bits-same, replace-same, core_left-same, oops_left-same)

  pub storage-same : (p : StoragePrimitive) → SameAnswer sim (storage M p) (storage N p)
  unfolding storage
  storage-same named.At = at-same
  storage-same p = search primitives_on_objects depth 32 fits 4000
