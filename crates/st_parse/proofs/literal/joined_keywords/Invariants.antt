use Rattle.std.proofs.Common.{◌∷◌, [], length}
use Rattle.st_grammar.specs.declared.leaf.Kind.TheVariants.{Joined}
use Rattle.st_grammar.specs.Leaves.{among}
use Rattle.st_grammar.specs.Reading.{joined_step, joined_at}
use Rattle.st_grammar.proofs.Loops.{Going}
use Rattle.st_parse.proofs.literal.joined_keywords.Given as goal

abbrev pub invariant-loop-selector : goal.invariant-loop-selector
invariant-loop-selector l = Going (λ _. among (Joined ∷ [])) (joined_step l.text) l.selector.items l.rest (joined_at l.text l.fn.first.items l.leaves)

abbrev pub decreases-loop-selector : goal.decreases-loop-selector
decreases-loop-selector l = length l.rest
