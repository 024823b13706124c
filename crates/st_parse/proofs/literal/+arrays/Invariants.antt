use Rattle.std.proofs.Common.{◌+◌, ◌*◌, length}
use Rattle.st_scan.specs.Views.{elements_view, no_elements}
use Rattle.st_grammar.specs.Leaves.{among}
use Rattle.st_grammar.specs.Reading.{element_starts, array_at, elements_step, elements_at}
use Rattle.st_grammar.proofs.Loops.{Going}
use Rattle.st_parse.proofs.literal.+arrays.Given as goal

abbrev pub decreases-array : goal.decreases-array
decreases-array l = 5 * l.room

abbrev pub decreases-nested : goal.decreases-nested
decreases-nested l = 5 * l.room + 1

abbrev pub decreases-element : goal.decreases-element
decreases-element l = 5 * l.room + 2

abbrev pub decreases-one_more : goal.decreases-one_more
decreases-one_more l = 5 * l.room + 3

abbrev pub decreases-elements : goal.decreases-elements
decreases-elements l = 5 * l.room + 4

abbrev pub invariant-elements-loop-alloc : goal.invariant-elements-loop-alloc
invariant-elements-loop-alloc l =
    Going (λ _. among element_starts) (elements_step l.text (array_at l.text l.room)) (elements_view l.elements.items) l.rest (elements_at l.text (array_at l.text l.room) no_elements l.leaves)

abbrev pub decreases-elements-loop-alloc : goal.decreases-elements-loop-alloc
decreases-elements-loop-alloc l = length l.rest
