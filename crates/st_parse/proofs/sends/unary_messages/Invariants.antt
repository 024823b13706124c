use Rattle.std.proofs.Common.{length}
use Rattle.st_scan.specs.Views.{expression_view}
use Rattle.st_grammar.specs.Leaves.{among}
use Rattle.st_grammar.specs.Phrases.{names}
use Rattle.st_grammar.specs.Reading.{names_step, names_at}
use Rattle.st_grammar.proofs.Loops.{Going}
use Rattle.st_parse.proofs.sends.unary_messages.Given as goal

abbrev pub invariant-loop-alloc : goal.invariant-loop-alloc
invariant-loop-alloc l = Going (λ _. among names) (names_step l.text) (expression_view l.receiver) l.rest (names_at l.text (expression_view l.fn.first) l.leaves)

abbrev pub decreases-loop-alloc : goal.decreases-loop-alloc
decreases-loop-alloc l = length l.rest
