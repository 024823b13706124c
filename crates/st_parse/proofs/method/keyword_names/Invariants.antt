use Rattle.std.proofs.Common.{length}
use Rattle.st_grammar.specs.Leaves.{among, keywords}
use Rattle.st_parse.specs.inside.Parsed.{pattern_view}
use Rattle.st_grammar.specs.Reading.{pattern_step, keyword_names_at}
use Rattle.st_grammar.proofs.Loops.{Going}
use Rattle.st_parse.proofs.method.keyword_names.Given as goal

abbrev pub invariant-loop-alloc : goal.invariant-loop-alloc
invariant-loop-alloc l = Going (λ _. among keywords) (pattern_step l.text) (pattern_view l.pattern) l.rest (keyword_names_at l.text (pattern_view l.fn.first) l.leaves)

abbrev pub decreases-loop-alloc : goal.decreases-loop-alloc
decreases-loop-alloc l = length l.rest
