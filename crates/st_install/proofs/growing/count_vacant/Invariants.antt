use Rattle.st_install.proofs.Growth.{LeftPlaces}
use Rattle.st_install.proofs.growing.count_vacant.Given as goal

-- the places of nil are those so far, and those that are left
abbrev pub invariant-loop-k : goal.invariant-loop-k
invariant-loop-k g l = LeftPlaces l.dictionary l.places (g.M.Memory.view l.m).objects l.k l.vacant
