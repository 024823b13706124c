use Rattle.std.proofs.Common.{◌∷◌, [], length}
use Rattle.st_scan.specs.Views.{names_view}
use Rattle.st_grammar.specs.declared.leaf.Kind.TheVariants.{Colon}
use Rattle.st_grammar.specs.Leaves.{among}
use Rattle.st_grammar.specs.Reading.{parameters_step, parameters_at}
use Rattle.st_grammar.proofs.Loops.{Going}
use Rattle.st_parse.proofs.names.parameters.Given as goal

abbrev pub invariant-loop-alloc : goal.invariant-loop-alloc
invariant-loop-alloc l = Going (λ _. among (Colon ∷ [])) (parameters_step l.text) (names_view l.names.items) l.rest (parameters_at l.text (names_view l.fn.first.items) l.leaves)

abbrev pub decreases-loop-alloc : goal.decreases-loop-alloc
decreases-loop-alloc l = length l.rest
