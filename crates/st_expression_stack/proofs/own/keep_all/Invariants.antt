use Rattle.st_expression_stack.proofs.Kept.{LeftKept}
use Rattle.st_expression_stack.proofs.own.keep_all.Given as goal

abbrev pub invariant-loop-text : goal.invariant-loop-text
invariant-loop-text l = LeftKept l.texts l.initial.taken.keys l.text-index l.taken.keys
