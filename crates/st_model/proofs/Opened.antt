-- One name that opens the definitions of the machine, for rows that are computed from them.
use Rattle.std.specs.Prelude.{ℕ, Bool, is_some}
use Rattle.st_model.specs.Blocks.{check_context, home_of_block, fill_block, new_block, primitive_block_copy, start_of, enter_block, value_with_words, value_if_any, primitive_value, passing, value_with_fields, value_with_if_any, primitive_value_with, blocks}
use Rattle.st_model.specs.Processes.{scheduler, scheduled_process, active_or_new, active_process, link_first, add_last, unlink_first, take_first, ready_lists, list_number, sleep, let_wait, resume_over, resume, add_excess, wake_first, signal, go_on_with, highest_goes_on, suspend, switch_to_process, check_fields, signal_and_answer, primitive_signal, excess_of, wait_in, take_excess, wait_and_answer, primitive_wait, resume_and_answer, primitive_resume, check_active, suspend_and_answer, primitive_suspend, processes, leave_process, enter_process}
use Rattle.st_model.specs.Input.{mouse_point, always, primitive_mouse_point, place_in, move_mouse, primitive_move_mouse, check_truth, primitive_link_cursor, hold_and_answer, primitive_input_semaphore, primitive_sample_interval, word_that_waits, take_word, primitive_input_word, check_four_bytes, store_time, store_seconds, primitive_second_clock, store_milliseconds, primitive_millisecond_clock, can_be_signalled, ring, ring_or_wait, timing, signal_once, set_timer, set_timer_and_answer, primitive_timer, primitive_be_cursor, primitive_be_display, low_space, set_low_space, primitive_low_space, input}
use Rattle.st_model.specs.Saving.{store_process, save, store_active}
use Rattle.st_model.specs.Events.{event}
use Rattle.st_model.specs.Machine.{ObjectMemory, Step, answer, die, after, ◌>>=◌, ◌>>◌, first_instance, next_of, tried}
use Rattle.st_model.specs.Steps.{get_active, get_home, get_method, get_receiver, get_ip, get_sp, set_ip, set_sp, found, object_named, object, stored_at, store_at, set_field, exchanged_there, exchange_named, exchange, units_set, set_units_at, set_units, get_device, newest_signal, count_signals, oldest_word, count_words, get_mouse_x, get_mouse_y, get_second_clock, get_millisecond_clock, world_changed, change_world, get_free, fetch_kind, fetch_size, fetch_bytes, store_bytes, named_or_not, object_at, next_instance, fetch_word, store_word, fetch_byte, store_byte, made, make_named, make, new_object, registers_set, set_registers, of_page, class_of, or_die, check, fetch_field, store_field, integer_or_die, fetch_integer, count_fields, fetch_fields, store_fields, transfer, put, push, top, under, look_at_words, drop_words, pop, literal, fetch_method_field, store_method_field, byte_at, next_byte, jump}
use Rattle.st_model.specs.Methods.{method_header, literal_from_last, primitive_number, method_primitive, extension_arguments, arguments_by_extension, arguments_by, method_arguments}
use Rattle.st_model.specs.Contexts.{home_by, home_of, stack_place, fetch_stack_pointer, context_registers, fetch_context_registers, scheduled_context, fetch_scheduled_registers, store_context_registers, switch, fill_context, new_context, pass_words, activate}
use Rattle.st_model.specs.Lookup.{half_word, checked_method, method_at, place_says, look_at_place, look_at_places, search_from, search_dictionary, or_above, method_in_class, look_in_class, unless_nil, end_at_nil, find_within, find}
use Rattle.st_model.specs.Sends.{copy_arguments, argument_array, new_message, replace_by_message, call_not_understood, not_understood, call_found, send_from, send, class_above, send_to_super, argument_count, special_send}
use Rattle.st_model.specs.Integers.{within_range, exact_quotient, modulo, quotient_down, quotient, binary, within_bits, large_sum, large_difference, large_product, large_exact_quotient, large_remainder, large_quotient, large, shifted_up, shifted_down}
use Rattle.st_model.specs.Primitives.{pop_words, answer_with, succeed, primitive, truth, check_class, check_bytes, bits_or_die, positive_small, byte_or_die, large_value, positive_value, new_large, number, number_of, specification, fixed_of_class, fixed_by, fixed_fields}
use Rattle.st_model.specs.Arithmetic.{new_point, value_of_answer, integer_under, integer_answer, arithmetic, large_under, large_answer, value_of_large, large_arithmetic, shift_answer, shift_large, equivalence, receiver_class, flush_cache}
use Rattle.st_model.specs.Pixels.{pixel, number_by}
use Rattle.st_model.specs.BitBlt.{copies_to, pixel_after, painted, fetch_words, fetch_positive, read_form, read_unless, read_form_if_any, fetch_form, fetch_destination, fetch_halftone, fetch_rule, fetch_axis, read_copy, store_painted, copy_bits, paint_and_answer, primitive_copy_bits}
use Rattle.st_model.specs.Storage.{count_literals, first_by, first_place, place_of_element, place_at, place_behind_fixed, word_number, byte_number, element_by, fetch_element, word_of_value, unit_by, unit_of_element, store_by, store_element, storing_at, store_and_answer, primitive_at, storing_behind_fixed, primitive_at_put, count_elements, primitive_size, fetch_character, place_in_bytes, character_at, primitive_string_at, character_byte, character_storing_at, storing_character, primitive_string_at_put, characters_or_not, has_characters, place_of_object, place_of_character, stream_place, position_below, standing_at, stream_standing, stream_element, take_next, primitive_next, stream_unit, putting_at, stream_putting, put_next, primitive_next_put, is_at_end, primitive_at_end, method_place, place_in_method, header_or_literal, primitive_object_at, check_header, check_method_field, place_to_store, store_in_method, primitive_object_at_put, check_not_method_class, fixed_specification, primitive_new, checked_shape, indexed_shape, primitive_new_with, check_object, check_objects, exchange_and_answer, primitive_become, primitive_instance_variable_at, storing_by_index, primitive_instance_variable_at_put, half_pointer, primitive_as_oop, kept_object_at, primitive_as_object, first_kept_instance, primitive_some_instance, instance_after, primitive_next_instance, method_shape, new_method, primitive_new_method, checked_replacing, replacing, replace_and_answer, primitive_replace, primitive_core_left, primitive_oops_left, primitive_say, storage}
use Rattle.st_model.specs.PrimitiveTable.{row_of, with_arguments, primitive_of}
use Rattle.st_model.specs.Executing.{goes_on, if_done, succeeds, says, asks, respond_by, respond_if_any, respond, answer_field, by_flag, or_activate, respond_by_extension, execute_by, takes, execute_found, drop_selector, spread_array, perform_found, perform, primitive_perform, spreading, perform_fields, primitive_perform_with, perform_by, respond_or_perform, execute, executed, execute_if_any, executed_if_any}
use Rattle.st_model.specs.Returns.{calls, calls_nothing, cannot_return, return_into, return_to_context, return_to, return_to_sender, return_to_caller, must_be_boolean, jump_on}
use Rattle.st_model.specs.Bytecodes.{fetch_receiver_variable, fetch_temporary_variable, fetch_literal_constant, fetch_literal_variable, fetch_operand, store_receiver_variable, store_temporary_variable, store_literal_variable, store_operand, constant_value, or_send, arithmetic_by, arithmetic_send, primitive_send, rows, bytecode, step, push_operand, store_and_pop, push_receiver, push_constant, extended_push, extended_store, extended_store_and_pop, pop_stack, duplicate_top, push_active_context, short_unconditional_jump, long_unconditional_jump, send_literal, send_literal_to_super, extended_send, double_extended_send, extended_super_send, double_extended_super_send, return_receiver, return_constant, return_top_to_sender, return_top_to_caller, short_jump_on_false, long_jump_on_true, long_jump_on_false}
use Rattle.st_model.specs.Settled.{is_root, is_supported, next_round, settled_set, reclaim}
use Rattle.st_model.specs.Cycles.{cycle, run_of, run, finished_of, finished, signal_if_any, signal_newest, switch_unless_nil, switch_if_waiting, check_process_switch, signal_next}
use Rattle.st_model.specs.inside.Foreseen.{foreseen_cycle}

-- whether the primitive of number k succeeds with n arguments
unfoldable pub tries : {H : Type 0} → ObjectMemory H → ℕ → ℕ → Step H Bool
tries m k n = respond m k n >>= (λ o. answer (is_some o))

-- opens the machine's definitions
unfoldable pub opened : Unit {0}
unfolding answer die after ◌>>=◌ ◌>>◌ get_active get_home get_method get_receiver get_ip get_sp set_ip set_sp found object_named object stored_at store_at set_field exchanged_there exchange_named exchange units_set set_units_at set_units get_device newest_signal count_signals oldest_word count_words get_mouse_x get_mouse_y get_second_clock get_millisecond_clock world_changed change_world get_free fetch_kind fetch_size fetch_bytes store_bytes named_or_not object_at next_instance first_instance next_of tried fetch_word store_word fetch_byte store_byte made make_named make new_object registers_set set_registers of_page class_of or_die check fetch_field store_field integer_or_die fetch_integer count_fields fetch_fields store_fields transfer put push top under look_at_words drop_words pop literal fetch_method_field store_method_field byte_at next_byte jump method_header literal_from_last primitive_number method_primitive home_by home_of stack_place fetch_stack_pointer context_registers fetch_context_registers scheduled_context fetch_scheduled_registers store_context_registers switch fill_context new_context pass_words activate half_word checked_method method_at place_says look_at_place look_at_places search_from search_dictionary or_above method_in_class look_in_class unless_nil end_at_nil find_within find within_range exact_quotient modulo quotient_down quotient binary pop_words answer_with succeed primitive truth check_class check_bytes bits_or_die positive_small byte_or_die large_value positive_value new_large number number_of specification fixed_of_class fixed_by fixed_fields new_point value_of_answer integer_under integer_answer arithmetic large_under large_answer value_of_large large_arithmetic shift_answer shift_large within_bits large_sum large_difference large_product large_exact_quotient large_remainder large_quotient large shifted_up shifted_down equivalence receiver_class flush_cache count_literals first_by first_place place_of_element place_at place_behind_fixed word_number byte_number element_by fetch_element word_of_value unit_by unit_of_element store_by store_element storing_at store_and_answer primitive_at storing_behind_fixed primitive_at_put count_elements primitive_size fetch_character place_in_bytes character_at primitive_string_at character_byte character_storing_at storing_character primitive_string_at_put characters_or_not has_characters place_of_object place_of_character stream_place position_below standing_at stream_standing stream_element take_next primitive_next stream_unit putting_at stream_putting put_next primitive_next_put is_at_end primitive_at_end method_place place_in_method header_or_literal primitive_object_at check_header check_method_field place_to_store store_in_method primitive_object_at_put check_not_method_class fixed_specification primitive_new checked_shape indexed_shape primitive_new_with check_object check_objects exchange_and_answer primitive_become primitive_instance_variable_at storing_by_index primitive_instance_variable_at_put half_pointer primitive_as_oop kept_object_at primitive_as_object first_kept_instance primitive_some_instance instance_after primitive_next_instance method_shape new_method primitive_new_method checked_replacing replacing replace_and_answer primitive_replace primitive_core_left primitive_oops_left primitive_say storage pixel number_by copies_to pixel_after painted fetch_words fetch_positive read_form read_unless read_form_if_any fetch_form fetch_destination fetch_halftone fetch_rule fetch_axis read_copy store_painted copy_bits paint_and_answer primitive_copy_bits goes_on if_done succeeds says by_flag perform_found perform_fields answer_field or_activate row_of with_arguments primitive_of respond_by respond_if_any respond tries respond_by_extension execute_by execute executed execute_if_any executed_if_any copy_arguments argument_array new_message replace_by_message call_not_understood not_understood call_found send_from send class_above send_to_super argument_count special_send arithmetic_by arithmetic_send calls calls_nothing cannot_return return_into return_to_context return_to return_to_sender return_to_caller must_be_boolean jump_on fetch_receiver_variable fetch_temporary_variable fetch_literal_constant fetch_literal_variable fetch_operand store_receiver_variable store_temporary_variable store_literal_variable store_operand constant_value or_send primitive_send rows bytecode step is_root is_supported next_round settled_set reclaim cycle run_of run finished_of finished foreseen_cycle extension_arguments arguments_by_extension arguments_by method_arguments check_context fill_block new_block primitive_block_copy start_of enter_block value_with_words value_if_any primitive_value passing value_with_fields value_with_if_any primitive_value_with blocks scheduler scheduled_process active_or_new active_process link_first add_last unlink_first take_first ready_lists list_number sleep let_wait resume_over resume add_excess wake_first signal go_on_with highest_goes_on suspend switch_to_process check_fields signal_and_answer primitive_signal excess_of wait_in take_excess wait_and_answer primitive_wait resume_and_answer primitive_resume check_active suspend_and_answer primitive_suspend processes mouse_point always primitive_mouse_point place_in move_mouse primitive_move_mouse check_truth primitive_link_cursor hold_and_answer primitive_input_semaphore primitive_sample_interval word_that_waits take_word primitive_input_word check_four_bytes store_time store_seconds primitive_second_clock store_milliseconds primitive_millisecond_clock can_be_signalled ring ring_or_wait timing signal_once set_timer set_timer_and_answer primitive_timer primitive_be_cursor primitive_be_display low_space set_low_space primitive_low_space input asks takes execute_found drop_selector spread_array perform primitive_perform spreading primitive_perform_with perform_by respond_or_perform signal_if_any signal_newest switch_unless_nil switch_if_waiting check_process_switch store_process save event push_operand store_and_pop push_receiver push_constant extended_push extended_store extended_store_and_pop pop_stack duplicate_top push_active_context short_unconditional_jump long_unconditional_jump send_literal send_literal_to_super extended_send double_extended_send extended_super_send double_extended_super_send return_receiver return_constant return_top_to_sender return_top_to_caller short_jump_on_false long_jump_on_true long_jump_on_false home_of_block leave_process enter_process signal_next store_active
opened = tt
