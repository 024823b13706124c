-- Two names that open definitions, for rows that are computed from them: those of a text's syntax, and those of a definition.
use Rattle.st_scan.specs.Fronts.{word_at, number_at, inside_of, keywords_of, selector_at, hash_at, character_at, mark_at, front_of}
use Rattle.st_grammar.specs.Reading.{many, primitive_at, joined_step, joined_at, keyword_symbol_at, constant_element_at, nested_at, element_at, elements_step, elements_at, array_at, names_step, names_at, unary_message_at, targets_at, parameters_step, parameters_at, name_primary_at, constant_primary_at, array_primary_at, block_primary_at, group_primary_at, primary_at, any_unary_at, unary_at, operations_step, operations_at, any_binary_at, binary_at, parts_step, parts_at, keyword_at, messages_at, binary_message_at, keyword_message_at, message_at, cascade_step, cascades_at, sends_at, any_cascade_at, cascade_at, expression_at, returned_at, plain_at, statement_step, body_at, statements_at, argument_body_at, argument_block_at, plain_block_at, block_at, bracket_at, pattern_step, keyword_names_at, unary_pattern_at, binary_pattern_at, keyword_pattern_at, pattern_at, name_step, name_list_at, temporaries_at, temporaries_first_at, primitive_first_at, options_at, method_at, whole_at}
use Rattle.st_grammar.specs.Syntax.{syntax}

-- opens the syntax of a text
unfoldable pub opened : Unit {0}
unfolding syntax word_at number_at inside_of keywords_of selector_at hash_at character_at mark_at front_of many primitive_at joined_step joined_at keyword_symbol_at constant_element_at nested_at element_at elements_step elements_at array_at names_step names_at unary_message_at targets_at parameters_step parameters_at name_primary_at constant_primary_at array_primary_at block_primary_at group_primary_at primary_at any_unary_at unary_at operations_step operations_at any_binary_at binary_at parts_step parts_at keyword_at messages_at binary_message_at keyword_message_at message_at cascade_step cascades_at sends_at any_cascade_at cascade_at expression_at returned_at plain_at statement_step body_at statements_at argument_body_at argument_block_at plain_block_at block_at bracket_at pattern_step keyword_names_at unary_pattern_at binary_pattern_at keyword_pattern_at pattern_at name_step name_list_at temporaries_at temporaries_first_at primitive_first_at options_at method_at whole_at
opened = tt
