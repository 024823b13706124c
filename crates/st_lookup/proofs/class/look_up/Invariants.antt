use Rattle.st_model.specs.Values.{word}
use Rattle.st_lookup.proofs.Chain.{LeftClasses}
use Rattle.st_lookup.proofs.class.look_up.Given as goal

abbrev pub invariant-loop-selector : goal.invariant-loop-selector
invariant-loop-selector g l = LeftClasses g.O.Reading.names (word l.selector) (word l.fn.class) l.left (word l.class) (g.O.Reading.table l.m)

abbrev pub decreases-loop-selector : goal.decreases-loop-selector
decreases-loop-selector g l = l.left
