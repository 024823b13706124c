use Rattle.std.proofs.Common.{◌+◌, ◌*◌, ◌∷◌, [], length}
use Rattle.st_scan.specs.Views.{expression_view}
use Rattle.st_grammar.specs.declared.leaf.Kind.TheVariants.{Semicolon}
use Rattle.st_grammar.specs.Leaves.{among, keywords, operators}
use Rattle.st_parse.specs.inside.Phrases.{parts_view, body_view}
use Rattle.st_grammar.specs.Reading.{array_at, bracket_at, statement_looks, operations_step, operations_at, parts_step, parts_at, cascade_step, cascades_at, statement_step, body_at}
use Rattle.st_grammar.proofs.Loops.{Going}
use Rattle.st_parse.proofs.expression.+reading.Given as goal

abbrev pub decreases-inside_group : goal.decreases-inside_group
decreases-inside_group l = 30 * l.room + 0

abbrev pub decreases-inside_block : goal.decreases-inside_block
decreases-inside_block l = 30 * l.room + 0

abbrev pub decreases-primary : goal.decreases-primary
decreases-primary l = 30 * l.room + 2

abbrev pub decreases-unary : goal.decreases-unary
decreases-unary l = 30 * l.room + 4

abbrev pub decreases-binary_message : goal.decreases-binary_message
decreases-binary_message l = 30 * l.room + 5

abbrev pub decreases-binary_messages : goal.decreases-binary_messages
decreases-binary_messages l = 30 * l.room + 6

abbrev pub decreases-binary : goal.decreases-binary
decreases-binary l = 30 * l.room + 8

abbrev pub decreases-keyword_part : goal.decreases-keyword_part
decreases-keyword_part l = 30 * l.room + 9

abbrev pub decreases-keyword_parts : goal.decreases-keyword_parts
decreases-keyword_parts l = 30 * l.room + 10

abbrev pub decreases-messages : goal.decreases-messages
decreases-messages l = 30 * l.room + 12

abbrev pub decreases-message : goal.decreases-message
decreases-message l = 30 * l.room + 12

abbrev pub decreases-next_message : goal.decreases-next_message
decreases-next_message l = 30 * l.room + 13

abbrev pub decreases-next_messages : goal.decreases-next_messages
decreases-next_messages l = 30 * l.room + 14

abbrev pub decreases-sends : goal.decreases-sends
decreases-sends l = 30 * l.room + 15

abbrev pub decreases-cascade : goal.decreases-cascade
decreases-cascade l = 30 * l.room + 17

abbrev pub decreases-expression : goal.decreases-expression
decreases-expression l = 30 * l.room + 18

abbrev pub decreases-statement : goal.decreases-statement
decreases-statement l = 30 * l.room + 20

abbrev pub decreases-all_statements : goal.decreases-all_statements
decreases-all_statements l = 30 * l.room + 21

abbrev pub decreases-statements : goal.decreases-statements
decreases-statements l = 30 * l.room + 22

abbrev pub decreases-behind_arguments : goal.decreases-behind_arguments
decreases-behind_arguments l = 30 * l.room + 23

abbrev pub decreases-block : goal.decreases-block
decreases-block l = 30 * l.room + 25

abbrev pub invariant-binary_messages-loop-alloc : goal.invariant-binary_messages-loop-alloc
invariant-binary_messages-loop-alloc l =
    Going (λ _. among operators) (operations_step l.text (array_at l.text l.room) (bracket_at l.text l.room)) (expression_view l.receiver) l.rest (operations_at l.text (array_at l.text l.room) (bracket_at l.text l.room) (expression_view l.fn.first) l.leaves)

abbrev pub decreases-binary_messages-loop-alloc : goal.decreases-binary_messages-loop-alloc
decreases-binary_messages-loop-alloc l = length l.rest

abbrev pub invariant-keyword_parts-loop-alloc : goal.invariant-keyword_parts-loop-alloc
invariant-keyword_parts-loop-alloc l =
    Going (λ _. among keywords) (parts_step l.text (array_at l.text l.room) (bracket_at l.text l.room)) (parts_view l.parts) l.rest (parts_at l.text (array_at l.text l.room) (bracket_at l.text l.room) (parts_view l.fn.first) l.leaves)

abbrev pub decreases-keyword_parts-loop-alloc : goal.decreases-keyword_parts-loop-alloc
decreases-keyword_parts-loop-alloc l = length l.rest

abbrev pub invariant-next_messages-loop-alloc : goal.invariant-next_messages-loop-alloc
invariant-next_messages-loop-alloc l =
    Going (λ _. among (Semicolon ∷ [])) (cascade_step l.text (array_at l.text l.room) (bracket_at l.text l.room)) (expression_view l.cascade) l.rest (cascades_at l.text (array_at l.text l.room) (bracket_at l.text l.room) (expression_view l.fn.first) l.leaves)

abbrev pub decreases-next_messages-loop-alloc : goal.decreases-next_messages-loop-alloc
decreases-next_messages-loop-alloc l = length l.rest

abbrev pub invariant-all_statements-loop-alloc : goal.invariant-all_statements-loop-alloc
invariant-all_statements-loop-alloc l =
    Going (statement_looks) (statement_step l.text (array_at l.text l.room) (bracket_at l.text l.room)) (body_view l.body) l.rest (body_at l.text (array_at l.text l.room) (bracket_at l.text l.room) (body_view l.fn.first) l.leaves)

abbrev pub decreases-all_statements-loop-alloc : goal.decreases-all_statements-loop-alloc
decreases-all_statements-loop-alloc l = length l.rest
