use Rattle.std.proofs.Common.{◌-◌}
use Rattle.st_model.specs.Values.{word}
use Rattle.st_lookup.proofs.Searching.{Left}
use Rattle.st_lookup.proofs.places.look_at_places.Given as goal

-- what is left gives what the whole gives
abbrev pub invariant-loop-k : goal.invariant-loop-k
invariant-loop-k g l = Left g.O.Reading.names (word l.dictionary) (word l.selector) l.from l.to l.k (g.O.Reading.table l.m)

abbrev pub decreases-loop-k : goal.decreases-loop-k
decreases-loop-k g l = l.to - l.k
