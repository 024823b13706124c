-- Each definition of the machine meets no name without an object: it does the same over births where an object stands under
-- each name. Each of these is found from its text, as that births and tables do the same is.
use Rattle.std.proofs.Common.{ℕ, ◌+◌, ◌-◌, List, [], ◌∷◌, zero, suc, length, Option, Some, None, Bool, true, false, arith}
use Rattle.std.specs.Prelude.{if◌then◌else◌, nat_lt, ℤ, pos, negsuc}
use Rattle.st_model.specs.declared.dead.Dead.{Dead}
use Rattle.st_model.specs.Values.{Value, Small, Ref}
use Rattle.st_model.specs.Objects.{Object}
use Rattle.st_model.specs.declared.page.PageObject.{PageObject}
use Rattle.st_model.specs.declared.page.PageObject.TheVariants.{NilObject}
use Rattle.st_model.specs.Outcomes.{Outcome}
use Rattle.st_model.specs.Machine.{Step, answer}
use Rattle.st_model.specs.Births.{Births}
use Rattle.st_model.specs.Steps.{same_value, fetch_kind, fetch_size, fetch_bytes, store_bytes, new_object, class_of, or_die, check, fetch_field, store_field, integer_or_die, fetch_integer, count_fields, fetch_fields, store_fields, fetch_word, fetch_byte, store_word, store_byte, transfer, put, push, top, under, look_at_words, drop_words, pop, literal, fetch_method_field, store_method_field, byte_at, next_byte, jump}
use Rattle.st_model.specs.Methods.{from_last, method_header, literal_from_last, primitive_number, method_primitive}
use Rattle.st_model.specs.Contexts.{home_by, home_of, stack_place, fetch_stack_pointer, context_registers, fetch_context_registers, store_context_registers, switch, fill_context, new_context, pass_words, activate}
use Rattle.st_model.specs.Lookup.{checked_method, method_at, place_says, look_at_place, look_at_places, search_from, search_dictionary, or_above, method_in_class, look_in_class, unless_nil, end_at_nil, find_within, find}
use Rattle.st_model.specs.Sends.{copy_arguments, argument_array, new_message, replace_by_message, call_not_understood, not_understood, call_found, send_from, send, class_above, send_to_super, argument_count, special_send}
use Rattle.st_model.specs.declared.integers.IntAnswer.{IntAnswer}
use Rattle.st_model.specs.declared.integers.IntAnswer.TheVariants.{Number, Truth, Point}
use Rattle.st_model.specs.Primitives.{pop_words, answer_with, succeed, primitive, truth, check_class, check_bytes, bits_or_die, positive_small, byte_or_die, large_value, positive_value, new_large, number, number_of, specification, fixed_of_class, fixed_by, fixed_fields}
use Rattle.st_model.specs.Storage.{count_literals, first_by, first_place, place_of_element, place_at, place_behind_fixed, word_number, byte_number, element_by, fetch_element, word_of_value, unit_by, unit_of_element, store_by, store_element, Storing, storing_at, store_and_answer, primitive_at, storing_behind_fixed, primitive_at_put, count_elements, primitive_size, fetch_character, place_in_bytes, character_at, primitive_string_at, character_byte, character_storing_at, storing_character, primitive_string_at_put, characters_or_not, has_characters, place_of_object, place_of_character, stream_place, position_below, Standing, standing_at, stream_standing, stream_element, take_next, primitive_next, stream_unit, Putting, putting_at, stream_putting, put_next, primitive_next_put, is_at_end, primitive_at_end, method_place, place_in_method, header_or_literal, primitive_object_at, check_header, check_method_field, place_to_store, store_in_method, primitive_object_at_put, check_not_method_class, fixed_specification, primitive_new, checked_shape, indexed_shape, primitive_new_with, check_object, check_objects, exchange_and_answer, primitive_become, primitive_instance_variable_at, storing_by_index, primitive_instance_variable_at_put, half_pointer, primitive_as_oop, kept_object_at, primitive_as_object, first_kept_instance, primitive_some_instance, instance_after, primitive_next_instance, MethodShape, method_shape, new_method, primitive_new_method, Replacing, checked_replacing, replacing, replace_and_answer, primitive_replace, primitive_core_left, primitive_oops_left, primitive_say}
use Rattle.st_model.specs.declared.kind.Kind.{Kind}
use Rattle.st_model.specs.declared.kind.Kind.TheVariants as kind
use Rattle.st_model.specs.declared.integers.LargeAnswer.{LargeAnswer}
use Rattle.st_model.specs.declared.integers.LargeAnswer.TheVariants as wide
use Rattle.st_model.specs.Arithmetic.{new_point, value_of_answer, integer_under, integer_answer, arithmetic, large_under, large_answer, value_of_large, large_arithmetic, shift_answer, shift_large, equivalence, receiver_class, flush_cache}
use Rattle.st_model.specs.Executing.{goes_on}
use Rattle.st_simulation.proofs.Present.{bare, full, There, AllThere, ThereIfAny, ObjectThere, Later, SureValue, SureValues, SureOption, SureCall, SureAnswer, then_value-sure, then_values-sure, then_option-sure, then_object-sure, then_registers-sure, then_call-sure, then_any_call-sure, then_answer-sure, then_unit-sure, if-sure, die-sure, later_value, later_values, later_option, later_object, later_call, small_there, small_integer_there, class_there, field_there, none_there, some_there, no_values_there, values_there, registers_there, method_there, answer_value-sure, answer_values-sure, answer_option-sure, answer_registers-sure, answer_call-sure, answer_some_call-sure, answer_no_call-sure, answer_itself-sure, get_active-sure, get_home-sure, get_method-sure, get_receiver-sure, get_ip-sure, get_sp-sure, set_ip-sure, set_sp-sure, of_page-sure, object_named-sure, object-sure, set_field-sure, make-sure, set_registers-sure, half_word-sure, exchange-sure, set_units-sure, get_device-sure, newest_signal-sure, count_signals-sure, oldest_word-sure, get_mouse_x-sure, get_mouse_y-sure, get_second_clock-sure, get_millisecond_clock-sure, hold_there, add_signal_there, take_signal_there, set_due_there, set_low_there, move_mouse_there, take_word_there, change_world-sure, get_free-sure, object_at-sure, next_instance-sure, tried_value-sure, tried_itself-sure}

module _ (o : Object) (lives : ℕ → Type 0) where
  pub ruleset sures = (then_value-sure, then_values-sure, then_option-sure, then_object-sure, then_registers-sure, then_call-sure, then_any_call-sure, then_answer-sure, then_unit-sure, if-sure, die-sure, later_value, later_values, later_option, later_object, later_call, small_there, small_integer_there, class_there, field_there, none_there, some_there, no_values_there, values_there, registers_there, method_there, answer_value-sure, answer_values-sure, answer_option-sure, answer_registers-sure, answer_call-sure, answer_some_call-sure, answer_no_call-sure, answer_itself-sure, get_active-sure, get_home-sure, get_method-sure, get_receiver-sure, get_ip-sure, get_sp-sure, set_ip-sure, set_sp-sure, of_page-sure, object-sure, set_field-sure, make-sure, set_registers-sure, half_word-sure, exchange-sure, set_units-sure, get_device-sure, newest_signal-sure, count_signals-sure, oldest_word-sure, get_mouse_x-sure, get_mouse_y-sure, get_second_clock-sure, get_millisecond_clock-sure, hold_there, add_signal_there, take_signal_there, set_due_there, set_low_there, move_mouse_there, take_word_there, change_world-sure, get_free-sure, object_at-sure, next_instance-sure, tried_value-sure, tried_itself-sure)

  pub check-sure : (n : ℕ) (cause : Dead) (b : Bool) → SureAnswer o lives n (check cause b) (check cause b)
  unfolding check
  check-sure n cause true = answer_itself-sure o lives n tt
  check-sure n cause false = die-sure o lives _ n cause

  pub value_or_die-sure : (n : ℕ) (cause : Dead) (v : Option Value) → ThereIfAny o lives n v → SureValue o lives n (or_die cause v) (or_die cause v)
  unfolding or_die
  value_or_die-sure n cause None h = die-sure o lives _ n cause
  value_or_die-sure n cause (Some v) h = answer_value-sure o lives n v (record { live = h.live })

  pub itself_or_die-sure : {A : Type 0} (n : ℕ) (cause : Dead) (x : Option A) → SureAnswer o lives n (or_die cause x) (or_die cause x)
  unfolding or_die
  itself_or_die-sure n cause None = die-sure o lives _ n cause
  itself_or_die-sure n cause (Some a) = answer_itself-sure o lives n a

  pub integer_or_die-sure : (n : ℕ) (v : Value) → SureAnswer o lives n (integer_or_die v) (integer_or_die v)
  unfolding integer_or_die
  integer_or_die-sure n (Small i) = answer_itself-sure o lives n _
  integer_or_die-sure n (Ref i) = die-sure o lives _ n _

  pub ruleset memories = (sures, check-sure, value_or_die-sure, itself_or_die-sure, integer_or_die-sure)

  pub fetch_field-sure : (n : ℕ) (v : Value) (i : ℕ) → There o lives n v → SureValue o lives n (fetch_field bare v i) (fetch_field (full o) v i)
  unfolding fetch_field
  fetch_field-sure n v i h0 = search memories depth 24 fits 4000

  pub store_field-sure : (n : ℕ) (v : Value) (i : ℕ) (x : Value) → There o lives n v → There o lives n x → SureAnswer o lives n (store_field bare v i x) (store_field (full o) v i x)
  unfolding store_field
  store_field-sure n v i x h0 h1 = search memories depth 24 fits 4000

  pub count_fields-sure : (n : ℕ) (v : Value) → There o lives n v → SureAnswer o lives n (count_fields bare v) (count_fields (full o) v)
  unfolding count_fields
  count_fields-sure n v h0 = search memories depth 24 fits 4000

  pub new_object-sure : (n : ℕ) (v : Value) (i : ℕ) → There o lives n v → SureValue o lives n (new_object bare v i) (new_object (full o) v i)
  unfolding new_object
  new_object-sure n v i h0 = search memories depth 24 fits 4000

  pub class_of-sure : (n : ℕ) (v : Value) → There o lives n v → SureValue o lives n (class_of bare v) (class_of (full o) v)
  unfolding class_of
  class_of-sure n (Small i) h = of_page-sure o lives n _
  class_of-sure n (Ref k) h = search (memories, object_named-sure) depth 24 fits 4000

  pub ruleset fields = (memories, fetch_field-sure, store_field-sure, count_fields-sure, new_object-sure, class_of-sure)

  pub fetch_integer-sure : (n : ℕ) (v : Value) (i : ℕ) → There o lives n v → SureAnswer o lives n (fetch_integer bare v i) (fetch_integer (full o) v i)
  unfolding fetch_integer
  fetch_integer-sure n v i h0 = search fields depth 24 fits 4000

  pub fetch_fields-sure : (n : ℕ) (v : Value) (from : ℕ) (i : ℕ) → There o lives n v → SureValues o lives n (fetch_fields bare v from i) (fetch_fields (full o) v from i)
  unfolding fetch_fields
  fetch_fields-sure n v from zero h = search fields depth 24 fits 4000
  fetch_fields-sure n v from (suc i) h = then_value-sure o lives _ n _ _ _ _ (fetch_field-sure n v from h) (λ k l x g. then_values-sure o lives _ k _ _ _ _ (fetch_fields-sure k v (suc from) i (later_value o lives n k v l h)) (λ j e xs q. answer_values-sure o lives j _ (values_there o lives j x xs (later_value o lives k j x e g) q)))

  pub store_fields-sure : (n : ℕ) (v : Value) (to : ℕ) (xs : List Value) → There o lives n v → AllThere o lives n xs → SureAnswer o lives n (store_fields bare v to xs) (store_fields (full o) v to xs)
  unfolding store_fields
  store_fields-sure n v to [] h k = search fields depth 24 fits 4000
  store_fields-sure n v to (x ∷ xs) h k = then_unit-sure o lives _ n _ _ _ _ (store_field-sure n v to x h (record { live = k.live.0 })) (λ j l. store_fields-sure j v (suc to) xs (later_value o lives n j v l h) (later_values o lives n j xs l (record { live = k.live.1 })))

  pub transfer-sure : (n : ℕ) (i : ℕ) (v : Value) (from : ℕ) (w : Value) (to : ℕ) → There o lives n v → There o lives n w → SureAnswer o lives n (transfer bare i v from w to) (transfer (full o) i v from w to)
  unfolding transfer
  transfer-sure n i v from w to h0 h1 = search (fields, fetch_fields-sure, store_fields-sure) depth 24 fits 4000

  pub fetch_word-sure : (n : ℕ) (v : Value) (i : ℕ) → There o lives n v → SureAnswer o lives n (fetch_word bare v i) (fetch_word (full o) v i)
  unfolding fetch_word
  fetch_word-sure n v i h0 = search fields depth 24 fits 4000

  pub fetch_byte-sure : (n : ℕ) (v : Value) (i : ℕ) → There o lives n v → SureAnswer o lives n (fetch_byte bare v i) (fetch_byte (full o) v i)
  unfolding fetch_byte
  fetch_byte-sure n v i h0 = search fields depth 24 fits 4000

  pub store_word-sure : (n : ℕ) (v : Value) (i x : ℕ) → There o lives n v → SureAnswer o lives n (store_word bare v i x) (store_word (full o) v i x)
  unfolding store_word
  store_word-sure n v i x h0 = search fields depth 24 fits 4000

  pub store_byte-sure : (n : ℕ) (v : Value) (i x : ℕ) → There o lives n v → SureAnswer o lives n (store_byte bare v i x) (store_byte (full o) v i x)
  unfolding store_byte
  store_byte-sure n v i x h0 = search fields depth 24 fits 4000

  pub fetch_kind-sure : (n : ℕ) (v : Value) → There o lives n v → SureAnswer o lives n (fetch_kind bare v) (fetch_kind (full o) v)
  unfolding fetch_kind
  fetch_kind-sure n v h0 = search fields depth 24 fits 4000

  pub fetch_size-sure : (n : ℕ) (v : Value) → There o lives n v → SureAnswer o lives n (fetch_size bare v) (fetch_size (full o) v)
  unfolding fetch_size
  fetch_size-sure n v h0 = search fields depth 24 fits 4000

  pub fetch_bytes-sure : (n : ℕ) (v : Value) (from i : ℕ) → There o lives n v → SureAnswer o lives n (fetch_bytes bare v from i) (fetch_bytes (full o) v from i)
  unfolding fetch_bytes
  fetch_bytes-sure n v from zero h = search fields depth 24 fits 4000
  fetch_bytes-sure n v from (suc i) h = then_answer-sure o lives _ n _ _ _ _ (fetch_byte-sure n v from h) (λ k l b. then_answer-sure o lives _ k _ _ _ _ (fetch_bytes-sure k v (suc from) i (later_value o lives n k v l h)) (λ j e bs. answer_itself-sure o lives j _))

  pub store_bytes-sure : (n : ℕ) (v : Value) (to : ℕ) (bs : List ℕ) → There o lives n v → SureAnswer o lives n (store_bytes bare v to bs) (store_bytes (full o) v to bs)
  unfolding store_bytes
  store_bytes-sure n v to [] h = search fields depth 24 fits 4000
  store_bytes-sure n v to (b ∷ bs) h = then_unit-sure o lives _ n _ _ _ _ (store_byte-sure n v to b h) (λ j l. store_bytes-sure j v (suc to) bs (later_value o lives n j v l h))

  pub push-sure : (n : ℕ) (x : Value) → There o lives n x → SureAnswer o lives n (push bare x) (push (full o) x)
  unfolding push put
  push-sure n x h0 = search fields depth 32 fits 4000

  pub top-sure : (n : ℕ) → SureValue o lives n (top bare) (top (full o))
  unfolding top
  top-sure n = search fields depth 24 fits 4000

  pub under-sure : (n : ℕ) (k : ℕ) → SureValue o lives n (under bare k) (under (full o) k)
  unfolding under
  under-sure n k = search fields depth 24 fits 4000

  pub look_at_words-sure : (n : ℕ) (k : ℕ) → SureAnswer o lives n (look_at_words bare k) (look_at_words (full o) k)
  unfolding look_at_words
  look_at_words-sure n k = search (fields, under-sure, top-sure) depth 24 fits 4000

  pub drop_words-sure : (n : ℕ) (k : ℕ) → SureAnswer o lives n (drop_words k) (drop_words k)
  unfolding drop_words
  drop_words-sure n k = search fields depth 24 fits 4000

  pub pop-sure : (n : ℕ) → SureValue o lives n (pop bare) (pop (full o))
  unfolding pop
  pop-sure n = search (fields, top-sure) depth 24 fits 4000

  pub literal-sure : (n : ℕ) (v : Value) (i : ℕ) → There o lives n v → SureValue o lives n (literal bare v i) (literal (full o) v i)
  unfolding literal
  literal-sure n v i h0 = search fields depth 24 fits 4000

  pub fetch_method_field-sure : (n : ℕ) (v : Value) (i : ℕ) → There o lives n v → SureValue o lives n (fetch_method_field bare v i) (fetch_method_field (full o) v i)
  unfolding fetch_method_field
  fetch_method_field-sure n v i h = search fields depth 24 fits 4000

  pub store_method_field-sure : (n : ℕ) (v : Value) (i : ℕ) (x : Value) → There o lives n v → There o lives n x → SureAnswer o lives n (store_method_field bare v i x) (store_method_field (full o) v i x)
  unfolding store_method_field
  store_method_field-sure n v i x h k = search fields depth 24 fits 4000

  pub next_byte-sure : (n : ℕ) → SureAnswer o lives n (next_byte bare) (next_byte (full o))
  unfolding next_byte byte_at
  next_byte-sure n = search fields depth 32 fits 4000

  pub jump-sure : (n : ℕ) (d : ℤ) → SureAnswer o lives n (jump d) (jump d)
  unfolding jump
  jump-sure n d = search fields depth 24 fits 4000

  pub ruleset parts = (fields, fetch_word-sure, fetch_byte-sure, store_word-sure, store_byte-sure, fetch_kind-sure, fetch_size-sure, fetch_bytes-sure, store_bytes-sure, fetch_integer-sure, transfer-sure, push-sure, under-sure, look_at_words-sure, drop_words-sure, top-sure, pop-sure, literal-sure, fetch_method_field-sure, store_method_field-sure, next_byte-sure, jump-sure)

  -- headers and contexts

  pub last_there : (n : ℕ) (b : Bool) (v : Option Value) → ThereIfAny o lives n v → ThereIfAny o lives n (if b then v else None)
  last_there n true v h = h
  last_there n false v h = none_there o lives n

  pub from_last_there : (n : ℕ) (a : Object) (k : ℕ) → ObjectThere o lives n a → ThereIfAny o lives n (from_last a k)
  from_last_there n a k h = last_there n (nat_lt (k + 1) (length a.fields)) _ (field_there o lives n a (length a.fields - (k + 1)) h)

  pub method_header-sure : (n : ℕ) (v : Value) → There o lives n v → SureValue o lives n (method_header bare v) (method_header (full o) v)
  unfolding method_header
  method_header-sure n v h0 = search fields depth 24 fits 4000

  pub literal_from_last-sure : (n : ℕ) (v : Value) (k : ℕ) → There o lives n v → SureValue o lives n (literal_from_last bare v k) (literal_from_last (full o) v k)
  unfolding literal_from_last
  literal_from_last-sure n v k h0 = search (fields, from_last_there) depth 24 fits 4000

  pub primitive_number-sure : (n : ℕ) (v : Value) → SureAnswer o lives n (primitive_number v) (primitive_number v)
  unfolding primitive_number
  primitive_number-sure n (Small i) = answer_itself-sure o lives n _
  primitive_number-sure n (Ref i) = die-sure o lives _ n _

  pub method_primitive-sure : (n : ℕ) (v : Value) → There o lives n v → SureAnswer o lives n (method_primitive bare v) (method_primitive (full o) v)
  unfolding method_primitive
  method_primitive-sure n v h0 = search (fields, literal_from_last-sure, primitive_number-sure) depth 24 fits 4000

  pub ruleset headers = (parts, method_header-sure, literal_from_last-sure, method_primitive-sure)

  pub home_by-sure : (n : ℕ) (c : Value) (v : Value) → There o lives n c → SureValue o lives n (home_by bare c v) (home_by (full o) c v)
  unfolding home_by
  home_by-sure n c (Small i) h = search parts depth 24 fits 4000
  home_by-sure n c (Ref i) h = search parts depth 24 fits 4000

  pub home_of-sure : (n : ℕ) (c : Value) → There o lives n c → SureValue o lives n (home_of bare c) (home_of (full o) c)
  unfolding home_of
  home_of-sure n c h0 = search (parts, home_by-sure) depth 24 fits 4000

  pub stack_place-sure : (n : ℕ) (c : Value) (i : ℤ) → There o lives n c → SureAnswer o lives n (stack_place bare c i) (stack_place (full o) c i)
  unfolding stack_place
  stack_place-sure n c (pos i) h = search parts depth 24 fits 4000
  stack_place-sure n c (negsuc i) h = search parts depth 24 fits 4000

  pub fetch_context_registers-sure : (n : ℕ) (c : Value) → There o lives n c → SureAnswer o lives n (fetch_context_registers bare c) (fetch_context_registers (full o) c)
  unfolding fetch_context_registers context_registers fetch_stack_pointer
  fetch_context_registers-sure n c h0 = search (parts, home_of-sure, stack_place-sure) depth 40 fits 4000

  pub store_context_registers-sure : (n : ℕ) → SureAnswer o lives n (store_context_registers bare) (store_context_registers (full o))
  unfolding store_context_registers
  store_context_registers-sure n = search parts depth 24 fits 4000

  pub switch-sure : (n : ℕ) (c : Value) → There o lives n c → SureAnswer o lives n (switch bare c) (switch (full o) c)
  unfolding switch
  switch-sure n c h0 = search (sures, store_context_registers-sure, fetch_context_registers-sure) depth 24 fits 4000

  pub fill_context-sure : (n : ℕ) (c : Value) (m : Value) (header : Value) → There o lives n c → There o lives n m → SureAnswer o lives n (fill_context bare c m header) (fill_context (full o) c m header)
  unfolding fill_context
  fill_context-sure n c m header h0 h1 = search parts depth 24 fits 4000

  pub new_context-sure : (n : ℕ) (m : Value) (header : Value) → There o lives n m → SureValue o lives n (new_context bare m header) (new_context (full o) m header)
  unfolding new_context
  new_context-sure n m header h0 = search (parts, fill_context-sure) depth 24 fits 4000

  pub pass_words-sure : (n : ℕ) (c : Value) (k : ℕ) → There o lives n c → SureAnswer o lives n (pass_words bare c k) (pass_words (full o) c k)
  unfolding pass_words
  pass_words-sure n c k h0 = search parts depth 24 fits 4000

  pub activate-sure : (n : ℕ) (m : Value) (header : Value) (k : ℕ) → There o lives n m → SureAnswer o lives n (activate bare m header k) (activate (full o) m header k)
  unfolding activate
  activate-sure n m header k h0 = search (parts, new_context-sure, pass_words-sure, switch-sure) depth 32 fits 4000

  -- the search for a method

  pub checked_method-sure : (n : ℕ) (v : Value) → There o lives n v → SureOption o lives n (checked_method bare v) (checked_method (full o) v)
  unfolding checked_method
  checked_method-sure n v h0 = search headers depth 24 fits 4000

  pub method_at-sure : (n : ℕ) (d : Value) (k : ℕ) → There o lives n d → SureOption o lives n (method_at bare d k) (method_at (full o) d k)
  unfolding method_at
  method_at-sure n d k h0 = search (headers, checked_method-sure) depth 24 fits 4000

  -- a step that does the same from here on, and later
  pub record SureLater (n : ℕ) (m m' : Step Births (Option Value)) : Type 0 where
    pub at : (k : ℕ) → Later o lives n k → SureOption o lives k m m'

  pub later_later : (n k : ℕ) (m m' : Step Births (Option Value)) → Later o lives n k → SureLater n m m' → SureLater k m m'
  later_later n k m m' l h = record { at = λ j e. h.at j (record { is = omega (arith, l.is, e.is) }) }

  pub sure_now : (n : ℕ) (m m' : Step Births (Option Value)) → SureLater n m m' → SureOption o lives n m m'
  sure_now n m m' h = h.at n (record { is = omega arith })

  pub place_says-sure : (n : ℕ) (d : Value) (k : ℕ) (a b : Bool) (m m' : Step Births (Option Value)) → There o lives n d → SureLater n m m' → SureOption o lives n (place_says bare d k a b m) (place_says (full o) d k a b m')
  unfolding place_says
  place_says-sure n d k true b m m' h l = method_at-sure n d k h
  place_says-sure n d k false true m m' h l = answer_option-sure o lives n None (none_there o lives n)
  place_says-sure n d k false false m m' h l = sure_now n m m' l

  pub look_at_place-sure : (n : ℕ) (d x : Value) (k : ℕ) (m m' : Step Births (Option Value)) → There o lives n d → SureLater n m m' → SureOption o lives n (look_at_place bare d x k m) (look_at_place (full o) d x k m')
  unfolding look_at_place
  look_at_place-sure n d x k m m' h l = search (parts, later_later, place_says-sure) depth 24 fits 4000

  pub look_at_places-sure : (n : ℕ) (d x : Value) (k left : ℕ) (m m' : Step Births (Option Value)) → There o lives n d → SureLater n m m' → SureOption o lives n (look_at_places bare d x k left m) (look_at_places (full o) d x k left m')
  unfolding look_at_places
  look_at_places-sure n d x k zero m m' h l = sure_now n m m' l
  look_at_places-sure n d x k (suc left) m m' h l =
      look_at_place-sure n d x k _ _ h (record { at = λ j e. look_at_places-sure j d x (suc k) left m m' (later_value o lives n j d e h) (later_later n j m m' e l) })

  pub search_from-sure : (n : ℕ) (d x : Value) (places start : ℕ) → There o lives n d → SureOption o lives n (search_from bare d x places start) (search_from (full o) d x places start)
  unfolding search_from
  search_from-sure n d x places start h =
      look_at_places-sure n d x start (places - start) _ _ h (record {
        at = λ j e.
            look_at_places-sure j d x 0 places _ _ (later_value o lives n j d e h) (record { at = λ i g. answer_option-sure o lives i None (none_there o lives i) });
      })

  pub search_dictionary-sure : (n : ℕ) (d x : Value) (places : ℕ) → There o lives n d → There o lives n x → SureOption o lives n (search_dictionary bare d x places) (search_dictionary (full o) d x places)
  unfolding search_dictionary
  search_dictionary-sure n d x places h g = search (parts, search_from-sure) depth 24 fits 4000

  pub or_above-sure : (n : ℕ) (c : Value) (a : Option Value) (f f' : Value → Step Births (Option Value)) → There o lives n c → ThereIfAny o lives n a
      → ((k : ℕ) → Later o lives n k → (v : Value) → There o lives k v → SureOption o lives k (f v) (f' v)) → SureOption o lives n (or_above bare c a f) (or_above (full o) c a f')
  unfolding or_above
  or_above-sure n c None f f' h g s = then_value-sure o lives _ n _ _ _ _ (fetch_field-sure n c 0 h) s
  or_above-sure n c (Some v) f f' h g s = answer_option-sure o lives n (Some v) g

  pub method_in_class-sure : (n : ℕ) (c x : Value) → There o lives n c → There o lives n x → SureOption o lives n (method_in_class bare c x) (method_in_class (full o) c x)
  unfolding method_in_class
  method_in_class-sure n c x h g = search (parts, search_dictionary-sure) depth 24 fits 4000

  pub look_in_class-sure : (n : ℕ) (c x : Value) (f f' : Value → Step Births (Option Value)) → There o lives n c → There o lives n x
      → ((k : ℕ) → Later o lives n k → (v : Value) → There o lives k v → SureOption o lives k (f v) (f' v)) → SureOption o lives n (look_in_class bare c x f) (look_in_class (full o) c x f')
  unfolding look_in_class
  look_in_class-sure n c x f f' h g s =
      then_option-sure o lives _ n _ _ _ _ (method_in_class-sure n c x h g) (λ k l a p. or_above-sure k c a f f' (later_value o lives n k c l h) p
      (λ j e v q. s j (record { is = omega (arith, l.is, e.is) }) v q))

  pub unless_nil-sure : (n : ℕ) (b : Bool) (m m' : Step Births (Option Value)) → SureOption o lives n m m' → SureOption o lives n (unless_nil b m) (unless_nil b m')
  unfolding unless_nil
  unless_nil-sure n true m m' h = answer_option-sure o lives n None (none_there o lives n)
  unless_nil-sure n false m m' h = h

  pub end_at_nil-sure : (n : ℕ) (c : Value) (m m' : Step Births (Option Value)) → There o lives n c → SureLater n m m' → SureOption o lives n (end_at_nil bare c m) (end_at_nil (full o) c m')
  unfolding end_at_nil
  end_at_nil-sure n c m m' h l = then_value-sure o lives _ n _ _ _ _ (of_page-sure o lives n NilObject) (λ k e v g. unless_nil-sure k (same_value c v) m m' (l.at k e))

  pub find_within-sure : (n : ℕ) (x : Value) (left : ℕ) (c : Value) → There o lives n x → There o lives n c → SureOption o lives n (find_within bare x left c) (find_within (full o) x left c)
  unfolding find_within
  find_within-sure n x zero c h g = end_at_nil-sure n c _ _ g (record { at = λ k e. die-sure o lives _ k _ })
  find_within-sure n x (suc left) c h g = end_at_nil-sure n c _ _ g (record {
    at = λ k e.
        look_in_class-sure k c x _ _ (later_value o lives n k c e g) (later_value o lives n k x e h)
        (λ j l v q. find_within-sure j x left v (later_value o lives k j x l (later_value o lives n k x e h)) q);
  })

  pub find-sure : (n : ℕ) (c x : Value) → There o lives n c → There o lives n x → SureOption o lives n (find bare c x) (find (full o) c x)
  unfolding find
  find-sure n c x h g = find_within-sure n x 32767 c g h

  -- sends, returns, and what executes a method

  pub argument_array-sure : (n : ℕ) (k : ℕ) → SureValue o lives n (argument_array bare k) (argument_array (full o) k)
  unfolding argument_array copy_arguments
  argument_array-sure n k = search parts depth 24 fits 4000

  pub new_message-sure : (n : ℕ) (s : Value) (a : Value) → There o lives n s → There o lives n a → SureValue o lives n (new_message bare s a) (new_message (full o) s a)
  unfolding new_message
  new_message-sure n s a h0 h1 = search parts depth 24 fits 4000

  pub replace_by_message-sure : (n : ℕ) (s : Value) (k : ℕ) → There o lives n s → SureAnswer o lives n (replace_by_message bare s k) (replace_by_message (full o) s k)
  unfolding replace_by_message
  replace_by_message-sure n s k h0 = search (parts, argument_array-sure, new_message-sure) depth 24 fits 4000

  pub call_not_understood-sure : (n : ℕ) (s : Value) (k : ℕ) (a : Option Value) → There o lives n s → ThereIfAny o lives n a → SureCall o lives n (call_not_understood bare s k a) (call_not_understood (full o) s k a)
  unfolding call_not_understood
  call_not_understood-sure n s k None h g = die-sure o lives _ n _
  call_not_understood-sure n s k (Some m) h g = let p : There o lives n m = record { live = g.live } in search (sures, replace_by_message-sure) depth 24 fits 4000

  pub not_understood-sure : (n : ℕ) (c : Value) (s : Value) (k : ℕ) → There o lives n c → There o lives n s → SureCall o lives n (not_understood bare c s k) (not_understood (full o) c s k)
  unfolding not_understood
  not_understood-sure n c s k h0 h1 = search (parts, find-sure, call_not_understood-sure) depth 24 fits 4000

  pub call_found-sure : (n : ℕ) (c : Value) (s : Value) (k : ℕ) (a : Option Value) → There o lives n c → There o lives n s → ThereIfAny o lives n a → SureCall o lives n (call_found bare c s k a) (call_found (full o) c s k a)
  unfolding call_found
  call_found-sure n c s k None h g p = not_understood-sure n c s k h g
  call_found-sure n c s k (Some m) h g p = answer_call-sure o lives n m k (record { live = p.live })

  pub send_from-sure : (n : ℕ) (c : Value) (s : Value) (k : ℕ) → There o lives n c → There o lives n s → SureCall o lives n (send_from bare c s k) (send_from (full o) c s k)
  unfolding send_from
  send_from-sure n c s k h0 h1 = search (parts, find-sure, call_found-sure) depth 24 fits 4000

  pub send-sure : (n : ℕ) (s : Value) (k : ℕ) → There o lives n s → SureCall o lives n (send bare s k) (send (full o) s k)
  unfolding send
  send-sure n s k h0 = search (parts, send_from-sure) depth 24 fits 4000

  pub send_to_super-sure : (n : ℕ) (s : Value) (k : ℕ) → There o lives n s → SureCall o lives n (send_to_super bare s k) (send_to_super (full o) s k)
  unfolding send_to_super class_above
  send_to_super-sure n s k h0 = search (headers, send_from-sure) depth 32 fits 4000

  pub argument_count-sure : (n : ℕ) (i : ℤ) → SureAnswer o lives n (argument_count i) (argument_count i)
  unfolding argument_count
  argument_count-sure n (pos i) = answer_itself-sure o lives n _
  argument_count-sure n (negsuc i) = die-sure o lives _ n _

  pub special_send-sure : (n : ℕ) (k : ℕ) → SureCall o lives n (special_send bare k) (special_send (full o) k)
  unfolding special_send
  special_send-sure n k = search (parts, argument_count-sure, send-sure) depth 32 fits 4000

  pub end-sure : (n : ℕ) (e : Outcome) → SureAnswer o lives n (answer e) (answer e)
  end-sure n e = answer_itself-sure o lives n e

  pub goes_on-sure : (n : ℕ) (m : Step Births Unit) (m' : Step Births Unit) → SureAnswer o lives n m m' → SureAnswer o lives n (goes_on m) (goes_on m')
  unfolding goes_on
  goes_on-sure n m m' h0 = search sures depth 24 fits 4000

  -- primitives

  pub pop_words-sure : (n : ℕ) (k : ℕ) → SureAnswer o lives n (pop_words bare k) (pop_words (full o) k)
  unfolding pop_words
  pop_words-sure n zero = answer_itself-sure o lives n _
  pop_words-sure n (suc k) = then_value-sure o lives _ n _ _ _ _ (pop-sure n) (λ m l x g. pop_words-sure m k)

  pub answer_with-sure : (n : ℕ) (k : ℕ) (v : Value) → There o lives n v → SureAnswer o lives n (answer_with bare k v) (answer_with (full o) k v)
  unfolding answer_with
  answer_with-sure n k v h0 = search (parts, pop_words-sure) depth 24 fits 4000

  pub succeed-sure : {A : Type 0} (n : ℕ) (k : ℕ) (f f' : A → Step Births Value) (a : Option A) → ((x : A) → SureValue o lives n (f x) (f' x))
      → SureAnswer o lives n (succeed bare k f a) (succeed (full o) k f' a)
  unfolding succeed
  succeed-sure n k f f' None h = answer_itself-sure o lives n _
  succeed-sure n k f f' (Some x) h = search (parts, h, answer_with-sure) depth 24 fits 4000

  pub primitive-sure : {A : Type 0} (n : ℕ) (k : ℕ) (p p' : Step Births A) (f f' : A → Step Births Value) → SureAnswer o lives n p p'
      → ((m : ℕ) (x : A) → Later o lives n m → SureValue o lives m (f x) (f' x)) → SureAnswer o lives n (primitive bare k p f) (primitive (full o) k p' f')
  unfolding primitive
  primitive-sure n k p p' f f' h l = search (parts, succeed-sure) depth 24 fits 4000

  pub succeed_value-sure : (n : ℕ) (k : ℕ) (f f' : Value → Step Births Value) (a : Option Value) → ThereIfAny o lives n a → ((m : ℕ) (x : Value) → Later o lives n m → There o lives m x → SureValue o lives m (f x) (f' x))
      → SureAnswer o lives n (succeed bare k f a) (succeed (full o) k f' a)
  unfolding succeed
  succeed_value-sure n k f f' None h l = answer_itself-sure o lives n _
  succeed_value-sure n k f f' (Some x) h l = then_value-sure o lives _ n _ _ _ _ (l n x (record { is = omega arith }) (record { live = h.live })) (λ m e v p. search (parts, answer_with-sure) depth 24 fits 4000)

  pub primitive_value-sure : (n : ℕ) (k : ℕ) (p p' : Step Births Value) (f f' : Value → Step Births Value) → SureValue o lives n p p'
      → ((m : ℕ) (x : Value) → Later o lives n m → There o lives m x → SureValue o lives m (f x) (f' x)) → SureAnswer o lives n (primitive bare k p f) (primitive (full o) k p' f')
  unfolding primitive
  primitive_value-sure n k p p' f f' h l = then_option-sure o lives _ n _ _ _ _ (tried_value-sure o lives n p p' h) (λ m e a q. succeed_value-sure m k f f' a q (λ j x d t. l j x (record { is = omega (arith, e.is, d.is) }) t))

  pub truth-sure : (n : ℕ) (b : Bool) → SureValue o lives n (truth bare b) (truth (full o) b)
  unfolding truth
  truth-sure n true = search sures
  truth-sure n false = search sures

  pub new_point-sure : (n : ℕ) (x y : ℤ) → SureValue o lives n (new_point bare x y) (new_point (full o) x y)
  unfolding new_point
  new_point-sure n x y = search parts depth 24 fits 4000

  pub value_of_answer-sure : (n : ℕ) (a : IntAnswer) → SureValue o lives n (value_of_answer bare a) (value_of_answer (full o) a)
  unfolding value_of_answer
  value_of_answer-sure n (Number i) = search sures
  value_of_answer-sure n (Truth b) = truth-sure n b
  value_of_answer-sure n (Point x y) = new_point-sure n x y

  pub arithmetic-sure : (n : ℕ) (k : ℕ) → SureAnswer o lives n (arithmetic bare k) (arithmetic (full o) k)
  unfolding arithmetic integer_answer integer_under
  arithmetic-sure n k = search (parts, primitive-sure, value_of_answer-sure) depth 32 fits 4000

  pub equivalence-sure : (n : ℕ) → SureAnswer o lives n (equivalence bare) (equivalence (full o))
  unfolding equivalence
  equivalence-sure n = search (parts, truth-sure, answer_with-sure) depth 24 fits 4000

  pub receiver_class-sure : (n : ℕ) → SureAnswer o lives n (receiver_class bare) (receiver_class (full o))
  unfolding receiver_class
  receiver_class-sure n = search (parts, answer_with-sure) depth 24 fits 4000

  pub flush_cache-sure : (n : ℕ) (k : ℕ) → SureAnswer o lives n (flush_cache bare k) (flush_cache (full o) k)
  unfolding flush_cache
  flush_cache-sure n k = search parts depth 24 fits 4000

  -- on objects

  pub check_class-sure : (n : ℕ) (v : Value) (q : PageObject) → There o lives n v → SureAnswer o lives n (check_class bare v q) (check_class (full o) v q)
  unfolding check_class
  check_class-sure n v q h0 = search parts depth 24 fits 4000

  pub check_bytes-sure : (n : ℕ) (v : Value) → There o lives n v → SureAnswer o lives n (check_bytes bare v) (check_bytes (full o) v)
  unfolding check_bytes
  check_bytes-sure n v h0 = search parts depth 24 fits 4000

  pub bits_or_die-sure : (n : ℕ) (v : Value) → There o lives n v → SureAnswer o lives n (bits_or_die v) (bits_or_die v)
  unfolding bits_or_die
  bits_or_die-sure n (Small i) h0 = answer_itself-sure o lives n _
  bits_or_die-sure n (Ref i) h0 = die-sure o lives _ n _

  pub positive_small-sure : (n : ℕ) (v : Value) → There o lives n v → SureAnswer o lives n (positive_small v) (positive_small v)
  unfolding positive_small
  positive_small-sure n v h0 = search (parts, bits_or_die-sure) depth 24 fits 4000

  pub byte_or_die-sure : (n : ℕ) (v : Value) → There o lives n v → SureAnswer o lives n (byte_or_die v) (byte_or_die v)
  unfolding byte_or_die
  byte_or_die-sure n v h0 = search (parts, bits_or_die-sure) depth 24 fits 4000

  pub large_value-sure : (n : ℕ) (most : ℕ) (v : Value) → There o lives n v → SureAnswer o lives n (large_value bare most v) (large_value (full o) most v)
  unfolding large_value
  large_value-sure n most v h0 = search (parts, check_class-sure, check_bytes-sure) depth 32 fits 4000

  pub positive_value-sure : (n : ℕ) (most : ℕ) (v : Value) → There o lives n v → SureAnswer o lives n (positive_value bare most v) (positive_value (full o) most v)
  unfolding positive_value
  positive_value-sure n most (Small i) h0 = positive_small-sure n (Small i) h0
  positive_value-sure n most (Ref i) h0 = large_value-sure n most (Ref i) h0

  pub specification-sure : (n : ℕ) (v : Value) → There o lives n v → SureAnswer o lives n (specification bare v) (specification (full o) v)
  unfolding specification
  specification-sure n v h0 = search (parts, bits_or_die-sure) depth 24 fits 4000

  pub fixed_by-sure : (n : ℕ) (v : Value) (b : Bool) → There o lives n v → SureAnswer o lives n (fixed_by bare v b) (fixed_by (full o) v b)
  unfolding fixed_by fixed_of_class
  fixed_by-sure n v true h0 = search (parts, specification-sure) depth 24 fits 4000
  fixed_by-sure n v false h0 = search sures depth 24 fits 4000

  pub fixed_fields-sure : (n : ℕ) (v : Value) → There o lives n v → SureAnswer o lives n (fixed_fields bare v) (fixed_fields (full o) v)
  unfolding fixed_fields
  fixed_fields-sure n v h0 = search (parts, fixed_by-sure) depth 24 fits 4000

  pub ruleset numbers_sure = (parts, check_class-sure, check_bytes-sure, bits_or_die-sure, positive_small-sure, byte_or_die-sure, positive_value-sure, specification-sure, fixed_fields-sure)

  pub count_literals-sure : (n : ℕ) (v : Value) → There o lives n v → SureAnswer o lives n (count_literals bare v) (count_literals (full o) v)
  unfolding count_literals
  count_literals-sure n v h0 = search (headers, bits_or_die-sure) depth 24 fits 4000

  pub first_by-sure : (n : ℕ) (v : Value) (b : Bool) → There o lives n v → SureAnswer o lives n (first_by bare v b) (first_by (full o) v b)
  unfolding first_by
  first_by-sure n v true h0 = search (sures, count_literals-sure) depth 24 fits 4000
  first_by-sure n v false h0 = search sures depth 24 fits 4000

  pub place_of_element-sure : (n : ℕ) (v : Value) (fixed : ℕ) (i : ℕ) → There o lives n v → SureAnswer o lives n (place_of_element bare v fixed i) (place_of_element (full o) v fixed i)
  unfolding place_of_element first_place
  place_of_element-sure n v fixed i h0 = search (numbers_sure, first_by-sure) depth 32 fits 4000

  pub place_at-sure : (n : ℕ) (v : Value) (fixed : ℕ) (x : Value) → There o lives n v → There o lives n x → SureAnswer o lives n (place_at bare v fixed x) (place_at (full o) v fixed x)
  unfolding place_at
  place_at-sure n v fixed x h0 h1 = search (numbers_sure, place_of_element-sure) depth 24 fits 4000

  pub place_behind_fixed-sure : (n : ℕ) (v : Value) (x : Value) → There o lives n v → There o lives n x → SureAnswer o lives n (place_behind_fixed bare v x) (place_behind_fixed (full o) v x)
  unfolding place_behind_fixed
  place_behind_fixed-sure n v x h0 h1 = search (numbers_sure, place_at-sure) depth 24 fits 4000

  pub unit_by-sure : (n : ℕ) (x : Value) (k : Kind) → There o lives n x → SureAnswer o lives n (unit_by bare x k) (unit_by (full o) x k)
  unfolding unit_by word_of_value
  unit_by-sure n x kind.Pointers h0 = search sures depth 24 fits 4000
  unit_by-sure n x kind.Words h0 = search numbers_sure depth 24 fits 4000
  unit_by-sure n x kind.Bytes h0 = search numbers_sure depth 24 fits 4000
  unit_by-sure n x kind.Method h0 = search numbers_sure depth 24 fits 4000

  pub unit_of_element-sure : (n : ℕ) (v : Value) (x : Value) → There o lives n v → There o lives n x → SureAnswer o lives n (unit_of_element bare v x) (unit_of_element (full o) v x)
  unfolding unit_of_element
  unit_of_element-sure n v x h0 h1 = search (numbers_sure, unit_by-sure) depth 24 fits 4000

  pub storing_at-sure : (n : ℕ) (v : Value) (x : Value) (i : ℕ) → There o lives n v → There o lives n x → SureAnswer o lives n (storing_at bare v x i) (storing_at (full o) v x i)
  unfolding storing_at
  storing_at-sure n v x i h0 h1 = search (numbers_sure, unit_of_element-sure) depth 24 fits 4000

  pub storing_behind_fixed-sure : (n : ℕ) (r : Value) (a : Value) (b : Value) → There o lives n r → There o lives n a → There o lives n b → SureAnswer o lives n (storing_behind_fixed bare r a b) (storing_behind_fixed (full o) r a b)
  unfolding storing_behind_fixed
  storing_behind_fixed-sure n r a b h0 h1 h2 = search (numbers_sure, place_behind_fixed-sure, storing_at-sure) depth 24 fits 4000

  pub storing_by_index-sure : (n : ℕ) (r : Value) (a : Value) (b : Value) → There o lives n r → There o lives n a → There o lives n b → SureAnswer o lives n (storing_by_index bare r a b) (storing_by_index (full o) r a b)
  unfolding storing_by_index
  storing_by_index-sure n r a b h0 h1 h2 = search (numbers_sure, place_at-sure, storing_at-sure) depth 24 fits 4000

  pub count_elements-sure : (n : ℕ) (r : Value) → There o lives n r → SureAnswer o lives n (count_elements bare r) (count_elements (full o) r)
  unfolding count_elements
  count_elements-sure n r h0 = search numbers_sure depth 24 fits 4000

  pub fetch_character-sure : (n : ℕ) (v : Value) (i : ℕ) → There o lives n v → SureValue o lives n (fetch_character bare v i) (fetch_character (full o) v i)
  unfolding fetch_character
  fetch_character-sure n v i h0 = search numbers_sure depth 24 fits 4000

  pub place_in_bytes-sure : (n : ℕ) (v : Value) (x : Value) → There o lives n v → There o lives n x → SureAnswer o lives n (place_in_bytes bare v x) (place_in_bytes (full o) v x)
  unfolding place_in_bytes
  place_in_bytes-sure n v x h0 h1 = search (numbers_sure, place_at-sure) depth 24 fits 4000

  pub character_at-sure : (n : ℕ) (r : Value) (a : Value) → There o lives n r → There o lives n a → SureValue o lives n (character_at bare r a) (character_at (full o) r a)
  unfolding character_at
  character_at-sure n r a h0 h1 = search (numbers_sure, place_in_bytes-sure, fetch_character-sure) depth 24 fits 4000

  pub character_byte-sure : (n : ℕ) (x : Value) → There o lives n x → SureAnswer o lives n (character_byte bare x) (character_byte (full o) x)
  unfolding character_byte
  character_byte-sure n x h0 = search numbers_sure depth 24 fits 4000

  pub storing_character-sure : (n : ℕ) (r : Value) (a : Value) (b : Value) → There o lives n r → There o lives n a → There o lives n b → SureAnswer o lives n (storing_character bare r a b) (storing_character (full o) r a b)
  unfolding storing_character character_storing_at
  storing_character-sure n r a b h0 h1 h2 = search (numbers_sure, place_in_bytes-sure, character_byte-sure) depth 24 fits 4000

  pub characters_or_not-sure : (n : ℕ) (b : Bool) (c : Bool) → SureAnswer o lives n (characters_or_not b c) (characters_or_not b c)
  unfolding characters_or_not
  characters_or_not-sure n true c = answer_itself-sure o lives n _
  characters_or_not-sure n false true = answer_itself-sure o lives n _
  characters_or_not-sure n false false = die-sure o lives _ n _

  pub has_characters-sure : (n : ℕ) (v : Value) → There o lives n v → SureAnswer o lives n (has_characters bare v) (has_characters (full o) v)
  unfolding has_characters
  has_characters-sure n v h0 = search (numbers_sure, characters_or_not-sure) depth 24 fits 4000

  pub stream_place-sure : (n : ℕ) (v : Value) (i : ℕ) (b : Bool) → There o lives n v → SureAnswer o lives n (stream_place bare v i b) (stream_place (full o) v i b)
  unfolding stream_place place_of_character place_of_object
  stream_place-sure n v i true h0 = search (numbers_sure, place_of_element-sure, fetch_character-sure) depth 32 fits 4000
  stream_place-sure n v i false h0 = search (numbers_sure, place_of_element-sure) depth 24 fits 4000

  pub position_below-sure : (n : ℕ) (r : Value) (i : ℕ) → There o lives n r → SureAnswer o lives n (position_below bare r i) (position_below (full o) r i)
  unfolding position_below
  position_below-sure n r i h0 = search numbers_sure depth 32 fits 4000

  pub stream_standing-sure : (n : ℕ) (r : Value) (i : ℕ) → There o lives n r → SureAnswer o lives n (stream_standing bare r i) (stream_standing (full o) r i)
  unfolding stream_standing standing_at
  stream_standing-sure n r i h0 = search (numbers_sure, has_characters-sure, position_below-sure, stream_place-sure) depth 32 fits 4000

  pub stream_unit-sure : (n : ℕ) (v : Value) (x : Value) (b : Bool) → There o lives n v → There o lives n x → SureAnswer o lives n (stream_unit bare v x b) (stream_unit (full o) v x b)
  unfolding stream_unit
  stream_unit-sure n v x true h0 h1 = character_byte-sure n x h1
  stream_unit-sure n v x false h0 h1 = unit_of_element-sure n v x h0 h1

  pub stream_putting-sure : (n : ℕ) (r : Value) (a : Value) → There o lives n r → There o lives n a → SureAnswer o lives n (stream_putting bare r a) (stream_putting (full o) r a)
  unfolding stream_putting putting_at
  stream_putting-sure n r a h0 h1 = search (numbers_sure, stream_standing-sure, stream_unit-sure) depth 32 fits 4000

  pub is_at_end-sure : (n : ℕ) (r : Value) → There o lives n r → SureAnswer o lives n (is_at_end bare r) (is_at_end (full o) r)
  unfolding is_at_end
  is_at_end-sure n r h0 = search (numbers_sure, has_characters-sure) depth 32 fits 4000

  pub header_or_literal-sure : (n : ℕ) (r : Value) (a : Value) → There o lives n r → There o lives n a → SureValue o lives n (header_or_literal bare r a) (header_or_literal (full o) r a)
  unfolding header_or_literal place_in_method method_place
  header_or_literal-sure n r a h0 h1 = search (numbers_sure, count_literals-sure) depth 40 fits 4000

  pub check_header-sure : (n : ℕ) (r : Value) (b : Value) → There o lives n r → There o lives n b → SureAnswer o lives n (check_header bare r b) (check_header (full o) r b)
  unfolding check_header
  check_header-sure n r b h0 h1 = search (numbers_sure, count_literals-sure) depth 32 fits 4000

  pub check_method_field-sure : (n : ℕ) (r : Value) (b : Value) (first : Bool) → There o lives n r → There o lives n b → SureAnswer o lives n (check_method_field bare r b first) (check_method_field (full o) r b first)
  unfolding check_method_field
  check_method_field-sure n r b true h0 h1 = check_header-sure n r b h0 h1
  check_method_field-sure n r b false h0 h1 = search sures depth 24 fits 4000

  pub place_to_store-sure : (n : ℕ) (r : Value) (a : Value) (b : Value) → There o lives n r → There o lives n a → There o lives n b → SureAnswer o lives n (place_to_store bare r a b) (place_to_store (full o) r a b)
  unfolding place_to_store place_in_method method_place
  place_to_store-sure n r a b h0 h1 h2 = search (numbers_sure, count_literals-sure, check_method_field-sure) depth 40 fits 4000

  pub fixed_specification-sure : (n : ℕ) (r : Value) → There o lives n r → SureAnswer o lives n (fixed_specification bare r) (fixed_specification (full o) r)
  unfolding fixed_specification check_not_method_class
  fixed_specification-sure n r h0 = search numbers_sure depth 32 fits 4000

  pub indexed_shape-sure : (n : ℕ) (r : Value) (a : Value) → There o lives n r → There o lives n a → SureAnswer o lives n (indexed_shape bare r a) (indexed_shape (full o) r a)
  unfolding indexed_shape checked_shape check_not_method_class
  indexed_shape-sure n r a h0 h1 = search numbers_sure depth 40 fits 4000

  pub check_objects-sure : (n : ℕ) (v : Value) (w : Value) → There o lives n v → There o lives n w → SureAnswer o lives n (check_objects bare v w) (check_objects (full o) v w)
  unfolding check_objects check_object
  check_objects-sure n v w h0 h1 = search numbers_sure depth 24 fits 4000

  pub half_pointer-sure : (n : ℕ) (r : Value) → There o lives n r → SureAnswer o lives n (half_pointer bare r) (half_pointer (full o) r)
  unfolding half_pointer check_object
  half_pointer-sure n r h0 = search numbers_sure depth 24 fits 4000

  pub kept_object_at-sure : (n : ℕ) (r : Value) → There o lives n r → SureValue o lives n (kept_object_at bare r) (kept_object_at (full o) r)
  unfolding kept_object_at
  kept_object_at-sure n r h0 = search numbers_sure depth 24 fits 4000

  pub first_kept_instance-sure : (n : ℕ) (r : Value) → There o lives n r → SureValue o lives n (first_kept_instance bare r) (first_kept_instance (full o) r)
  unfolding first_kept_instance
  first_kept_instance-sure n r h0 = search numbers_sure depth 24 fits 4000

  pub instance_after-sure : (n : ℕ) (r : Value) → There o lives n r → SureValue o lives n (instance_after bare r) (instance_after (full o) r)
  unfolding instance_after
  instance_after-sure n r h0 = search (numbers_sure, half_pointer-sure) depth 24 fits 4000

  pub method_shape-sure : (n : ℕ) (r : Value) (a : Value) (b : Value) → There o lives n r → There o lives n a → There o lives n b → SureAnswer o lives n (method_shape bare r a b) (method_shape (full o) r a b)
  unfolding method_shape
  method_shape-sure n r a b h0 h1 h2 = search numbers_sure depth 32 fits 4000

  pub checked_replacing-sure : (n : ℕ) (r : Value) (c : Value) (p : Replacing) → There o lives n r → There o lives n c → SureAnswer o lives n (checked_replacing bare r c p) (checked_replacing (full o) r c p)
  unfolding checked_replacing
  checked_replacing-sure n r c p h0 h1 = search numbers_sure depth 32 fits 4000

  pub replacing-sure : (n : ℕ) (r : Value) (a : Value) (b : Value) (c : Value) (d : Value) → There o lives n r → There o lives n a → There o lives n b → There o lives n c → There o lives n d → SureAnswer o lives n (replacing bare r a b c d) (replacing (full o) r a b c d)
  unfolding replacing
  replacing-sure n r a b c d h0 h1 h2 h3 h4 = search (numbers_sure, checked_replacing-sure) depth 40 fits 4000

  pub ruleset conditions_sure = (place_behind_fixed-sure, place_at-sure, storing_behind_fixed-sure, storing_by_index-sure, count_elements-sure, character_at-sure, storing_character-sure, stream_standing-sure, stream_putting-sure, is_at_end-sure, header_or_literal-sure, place_to_store-sure, fixed_specification-sure, indexed_shape-sure, check_objects-sure, half_pointer-sure, kept_object_at-sure, first_kept_instance-sure, instance_after-sure, method_shape-sure, replacing-sure, check_bytes-sure)

  pub number-sure : (n : ℕ) (k : ℕ) → SureValue o lives n (number bare k) (number (full o) k)
  unfolding number new_large
  number-sure n k = search parts depth 24 fits 4000

  pub number_of-sure : (n : ℕ) (i : ℤ) → SureValue o lives n (number_of bare i) (number_of (full o) i)
  unfolding number_of
  number_of-sure n (pos k) = number-sure n k
  number_of-sure n (negsuc k) = search sures depth 24 fits 4000

  pub element_by-sure : (n : ℕ) (v : Value) (i : ℕ) (k : Kind) → There o lives n v → SureValue o lives n (element_by bare v i k) (element_by (full o) v i k)
  unfolding element_by word_number byte_number
  element_by-sure n v i kind.Pointers h0 = search parts depth 24 fits 4000
  element_by-sure n v i kind.Words h0 = search (parts, number-sure) depth 24 fits 4000
  element_by-sure n v i kind.Bytes h0 = search parts depth 24 fits 4000
  element_by-sure n v i kind.Method h0 = search parts depth 24 fits 4000

  pub fetch_element-sure : (n : ℕ) (v : Value) (i : ℕ) → There o lives n v → SureValue o lives n (fetch_element bare v i) (fetch_element (full o) v i)
  unfolding fetch_element
  fetch_element-sure n v i h0 = search (parts, element_by-sure) depth 24 fits 4000

  pub store_by-sure : (n : ℕ) (v : Value) (i : ℕ) (x : Value) (unit : ℕ) (k : Kind) → There o lives n v → There o lives n x → SureAnswer o lives n (store_by bare v i x unit k) (store_by (full o) v i x unit k)
  unfolding store_by
  store_by-sure n v i x unit kind.Pointers h0 h1 = search parts depth 24 fits 4000
  store_by-sure n v i x unit kind.Words h0 h1 = search parts depth 24 fits 4000
  store_by-sure n v i x unit kind.Bytes h0 h1 = search parts depth 24 fits 4000
  store_by-sure n v i x unit kind.Method h0 h1 = search parts depth 24 fits 4000

  pub store_element-sure : (n : ℕ) (v : Value) (i : ℕ) (x : Value) (unit : ℕ) → There o lives n v → There o lives n x → SureAnswer o lives n (store_element bare v i x unit) (store_element (full o) v i x unit)
  unfolding store_element
  store_element-sure n v i x unit h0 h1 = search (parts, store_by-sure) depth 24 fits 4000

  pub store_and_answer-sure : (n : ℕ) (v : Value) (x : Value) (s : Storing) → There o lives n v → There o lives n x → SureValue o lives n (store_and_answer bare v x s) (store_and_answer (full o) v x s)
  unfolding store_and_answer
  store_and_answer-sure n v x s h0 h1 = search (parts, store_element-sure) depth 24 fits 4000

  pub stream_element-sure : (n : ℕ) (v : Value) (i : ℕ) (b : Bool) → There o lives n v → SureValue o lives n (stream_element bare v i b) (stream_element (full o) v i b)
  unfolding stream_element
  stream_element-sure n v i true h0 = fetch_character-sure n v i h0
  stream_element-sure n v i false h0 = fetch_element-sure n v i h0

  pub take_next-sure : (n : ℕ) (r : Value) (s : Standing) → There o lives n r → SureValue o lives n (take_next bare r s) (take_next (full o) r s)
  unfolding take_next
  take_next-sure n r s h0 = search (parts, stream_element-sure) depth 24 fits 4000

  pub put_next-sure : (n : ℕ) (r : Value) (a : Value) (p : Putting) → There o lives n r → There o lives n a → SureValue o lives n (put_next bare r a p) (put_next (full o) r a p)
  unfolding put_next
  put_next-sure n r a p h0 h1 = search (parts, store_element-sure) depth 24 fits 4000

  pub store_in_method-sure : (n : ℕ) (r : Value) (b : Value) (i : ℕ) → There o lives n r → There o lives n b → SureValue o lives n (store_in_method bare r b i) (store_in_method (full o) r b i)
  unfolding store_in_method
  store_in_method-sure n r b i h0 h1 = search parts depth 24 fits 4000

  pub exchange_and_answer-sure : (n : ℕ) (r : Value) (a : Value) → There o lives n r → There o lives n a → SureValue o lives n (exchange_and_answer bare r a) (exchange_and_answer (full o) r a)
  unfolding exchange_and_answer
  exchange_and_answer-sure n r a h0 h1 = search parts depth 24 fits 4000

  pub new_method-sure : (n : ℕ) (r : Value) (s : MethodShape) → There o lives n r → SureValue o lives n (new_method bare r s) (new_method (full o) r s)
  unfolding new_method
  new_method-sure n r s h0 = search (parts, check_header-sure) depth 24 fits 4000

  pub replace_and_answer-sure : (n : ℕ) (r : Value) (c : Value) (p : Replacing) → There o lives n r → There o lives n c → SureValue o lives n (replace_and_answer bare r c p) (replace_and_answer (full o) r c p)
  unfolding replace_and_answer
  replace_and_answer-sure n r c p h0 h1 = search parts depth 24 fits 4000

  pub value_of_large-sure : (n : ℕ) (a : LargeAnswer) → SureValue o lives n (value_of_large bare a) (value_of_large (full o) a)
  unfolding value_of_large
  value_of_large-sure n (wide.Number i) = number-sure n i
  value_of_large-sure n (wide.Truth b) = truth-sure n b

  pub large_arithmetic-sure : (n : ℕ) (k : ℕ) → SureAnswer o lives n (large_arithmetic bare k) (large_arithmetic (full o) k)
  unfolding large_arithmetic large_answer large_under
  large_arithmetic-sure n k = search (parts, primitive-sure, positive_value-sure, value_of_large-sure) depth 32 fits 4000

  pub shift_large-sure : (n : ℕ) → SureAnswer o lives n (shift_large bare) (shift_large (full o))
  unfolding shift_large shift_answer large_under integer_under
  shift_large-sure n = search (parts, primitive-sure, positive_value-sure, number-sure) depth 32 fits 4000

  pub ruleset effects_sure = (number-sure, number_of-sure, fetch_element-sure, store_and_answer-sure, take_next-sure, put_next-sure, store_in_method-sure, exchange_and_answer-sure, new_method-sure, replace_and_answer-sure)

  pub ruleset storing_sure = (parts, primitive-sure, primitive_value-sure, truth-sure, effects_sure, conditions_sure)

  pub primitive_at-sure : (n : ℕ) → SureAnswer o lives n (primitive_at bare) (primitive_at (full o))
  unfolding primitive_at
  primitive_at-sure n = search storing_sure depth 32 fits 4000

  pub primitive_at_put-sure : (n : ℕ) → SureAnswer o lives n (primitive_at_put bare) (primitive_at_put (full o))
  unfolding primitive_at_put
  primitive_at_put-sure n = search storing_sure depth 32 fits 4000

  pub primitive_size-sure : (n : ℕ) → SureAnswer o lives n (primitive_size bare) (primitive_size (full o))
  unfolding primitive_size
  primitive_size-sure n = search storing_sure depth 32 fits 4000

  pub primitive_string_at-sure : (n : ℕ) → SureAnswer o lives n (primitive_string_at bare) (primitive_string_at (full o))
  unfolding primitive_string_at
  primitive_string_at-sure n = search storing_sure depth 32 fits 4000

  pub primitive_string_at_put-sure : (n : ℕ) → SureAnswer o lives n (primitive_string_at_put bare) (primitive_string_at_put (full o))
  unfolding primitive_string_at_put
  primitive_string_at_put-sure n = search storing_sure depth 32 fits 4000

  pub primitive_next-sure : (n : ℕ) → SureAnswer o lives n (primitive_next bare) (primitive_next (full o))
  unfolding primitive_next
  primitive_next-sure n = search storing_sure depth 32 fits 4000

  pub primitive_next_put-sure : (n : ℕ) → SureAnswer o lives n (primitive_next_put bare) (primitive_next_put (full o))
  unfolding primitive_next_put
  primitive_next_put-sure n = search storing_sure depth 32 fits 4000

  pub primitive_at_end-sure : (n : ℕ) → SureAnswer o lives n (primitive_at_end bare) (primitive_at_end (full o))
  unfolding primitive_at_end
  primitive_at_end-sure n = search storing_sure depth 32 fits 4000

  pub primitive_object_at-sure : (n : ℕ) → SureAnswer o lives n (primitive_object_at bare) (primitive_object_at (full o))
  unfolding primitive_object_at
  primitive_object_at-sure n = search storing_sure depth 32 fits 4000

  pub primitive_object_at_put-sure : (n : ℕ) → SureAnswer o lives n (primitive_object_at_put bare) (primitive_object_at_put (full o))
  unfolding primitive_object_at_put
  primitive_object_at_put-sure n = search storing_sure depth 32 fits 4000

  pub primitive_new-sure : (n : ℕ) → SureAnswer o lives n (primitive_new bare) (primitive_new (full o))
  unfolding primitive_new
  primitive_new-sure n = search storing_sure depth 32 fits 4000

  pub primitive_new_with-sure : (n : ℕ) → SureAnswer o lives n (primitive_new_with bare) (primitive_new_with (full o))
  unfolding primitive_new_with
  primitive_new_with-sure n = search storing_sure depth 32 fits 4000

  pub primitive_become-sure : (n : ℕ) → SureAnswer o lives n (primitive_become bare) (primitive_become (full o))
  unfolding primitive_become
  primitive_become-sure n = search storing_sure depth 32 fits 4000

  pub primitive_instance_variable_at-sure : (n : ℕ) → SureAnswer o lives n (primitive_instance_variable_at bare) (primitive_instance_variable_at (full o))
  unfolding primitive_instance_variable_at
  primitive_instance_variable_at-sure n = search storing_sure depth 32 fits 4000

  pub primitive_instance_variable_at_put-sure : (n : ℕ) → SureAnswer o lives n (primitive_instance_variable_at_put bare) (primitive_instance_variable_at_put (full o))
  unfolding primitive_instance_variable_at_put
  primitive_instance_variable_at_put-sure n = search storing_sure depth 32 fits 4000

  pub primitive_as_oop-sure : (n : ℕ) → SureAnswer o lives n (primitive_as_oop bare) (primitive_as_oop (full o))
  unfolding primitive_as_oop
  primitive_as_oop-sure n = search storing_sure depth 32 fits 4000

  pub primitive_as_object-sure : (n : ℕ) → SureAnswer o lives n (primitive_as_object bare) (primitive_as_object (full o))
  unfolding primitive_as_object
  primitive_as_object-sure n = search storing_sure depth 32 fits 4000

  pub primitive_some_instance-sure : (n : ℕ) → SureAnswer o lives n (primitive_some_instance bare) (primitive_some_instance (full o))
  unfolding primitive_some_instance
  primitive_some_instance-sure n = search storing_sure depth 32 fits 4000

  pub primitive_next_instance-sure : (n : ℕ) → SureAnswer o lives n (primitive_next_instance bare) (primitive_next_instance (full o))
  unfolding primitive_next_instance
  primitive_next_instance-sure n = search storing_sure depth 32 fits 4000

  pub primitive_new_method-sure : (n : ℕ) → SureAnswer o lives n (primitive_new_method bare) (primitive_new_method (full o))
  unfolding primitive_new_method
  primitive_new_method-sure n = search storing_sure depth 32 fits 4000

  pub primitive_replace-sure : (n : ℕ) → SureAnswer o lives n (primitive_replace bare) (primitive_replace (full o))
  unfolding primitive_replace
  primitive_replace-sure n = search storing_sure depth 32 fits 4000

  pub primitive_core_left-sure : (n : ℕ) → SureAnswer o lives n (primitive_core_left bare) (primitive_core_left (full o))
  unfolding primitive_core_left
  primitive_core_left-sure n = search storing_sure depth 32 fits 4000

  pub primitive_oops_left-sure : (n : ℕ) → SureAnswer o lives n (primitive_oops_left bare) (primitive_oops_left (full o))
  unfolding primitive_oops_left
  primitive_oops_left-sure n = search storing_sure depth 32 fits 4000

  pub primitive_say-sure : (n : ℕ) (r : Value) → There o lives n r → SureAnswer o lives n (primitive_say bare r) (primitive_say (full o) r)
  unfolding primitive_say
  primitive_say-sure n r h0 = search storing_sure depth 24 fits 4000
