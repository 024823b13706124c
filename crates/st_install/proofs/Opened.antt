-- One name that opens the definitions of an installation, for rows that are computed from them.
use Rattle.st_scope.specs.Tables.{check_fields, bytes_of, member_key, member_name, has_name, found_or, first_from, first_field, member_named}
use Rattle.st_scope.specs.Classes.{class_association, class_on_side, class_named, none_if, until_nil, superclass, class_and, chain_within, chain, instance_lineage, metaclass_lineage, lineage}
use Rattle.st_scope.specs.Variables.{fields_unless, fields_or_none, name_unless, name_of, names_of, own_names, field_names, pool_unless, pool_or_none, own_pools, pools, member_if_any, or_later, association_in, shared_by, shared_names}
use Rattle.st_install.specs.Symbols.{symbol_text, is_symbol, symbol_named, make_symbol, found_or_made, seek_unless, with_symbol, with_symbols, symbols_for}
use Rattle.st_install.specs.Literals.{place_size, place_signed, place_number, place_character, place_string, place_symbol, place_pointer, place_array, place_owner, place_literals, place_literal}
use Rattle.st_install.specs.Dictionaries.{ends_at, seek_at, seek_among, seek_from, count_places, seek, place_of_selector, count_vacant, is_nearly_full, grows_at, grows_for, grown_objects, put_method, put_at, refill_unless, refill_from, refill_among, refill}
use Rattle.st_scope.specs.Shapes.{check_dictionary, check_symbol_table, check_symbols}
use Rattle.st_install.specs.Shapes.{check_size}
use Rattle.st_install.specs.Planning.{grown_if, sized, plan_objects, plan}
use Rattle.st_install.specs.Installing.{make_new, make_all, store_method_fields, fill_method, fill_by, fill_all, store_all, target, find_place, adopt, add_at, store_planned, fill_and_store, install}
use Rattle.st_scope.specs.Calls.{class_among, class_of_name, names_seen, names}
use Rattle.st_install.specs.Calls.{is_crowded, with_room, planned_for, planned, ready_for, ready}
use Rattle.st_model.specs.Machine.{answer, die, after, ◌>>=◌, ◌>>◌, tried}
use Rattle.st_model.specs.Steps.{found, object_named, object, stored_at, store_at, set_field, units_set, set_units_at, set_units, fetch_kind, named_or_not, object_at, store_byte, store_bytes, made, make_named, make, of_page, class_of, or_die, check, fetch_field, store_field, count_fields, fetch_fields, store_fields, store_method_field}
use Rattle.st_model.specs.Lookup.{half_word}
use Rattle.st_model.specs.Primitives.{check_class, check_bytes, bits_or_die}
use Rattle.st_model.specs.Values.{value_of}
use Rattle.st_model.specs.Settled.{is_root, is_supported, next_round, settled_set, reclaim}

-- opens the definitions
unfoldable pub opened : Unit {0}
unfolding check_fields bytes_of member_key member_name has_name found_or first_from first_field member_named class_association class_on_side class_named none_if until_nil superclass class_and chain_within chain instance_lineage metaclass_lineage lineage fields_unless fields_or_none name_unless name_of names_of own_names field_names pool_unless pool_or_none own_pools pools member_if_any or_later association_in shared_by shared_names symbol_text is_symbol symbol_named make_symbol found_or_made seek_unless with_symbol with_symbols symbols_for place_size place_signed place_number place_character place_string place_symbol place_pointer place_array place_owner place_literals place_literal ends_at seek_at seek_among seek_from count_places seek place_of_selector count_vacant is_nearly_full grows_at grows_for grown_objects put_method put_at refill_unless refill_from refill_among refill check_dictionary check_symbol_table check_symbols check_size sized grown_if plan_objects plan make_new make_all store_method_fields fill_method fill_by fill_all store_all target find_place adopt add_at store_planned fill_and_store install class_among class_of_name names_seen names is_crowded with_room planned_for planned ready_for ready answer die after ◌>>=◌ ◌>>◌ tried found object_named object stored_at store_at set_field units_set set_units_at set_units fetch_kind named_or_not object_at store_byte store_bytes made make_named make of_page class_of or_die check fetch_field store_field count_fields fetch_fields store_fields store_method_field half_word check_class check_bytes bits_or_die value_of is_root is_supported next_round settled_set reclaim
opened = tt
