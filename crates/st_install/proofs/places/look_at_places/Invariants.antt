use Rattle.st_model.specs.Values.{value}
use Rattle.st_install.proofs.Seeking.{LeftPlaces}
use Rattle.st_install.proofs.places.look_at_places.Given as goal

-- no place so far holds what is sought, or nil
abbrev pub invariant-loop-k : goal.invariant-loop-k
invariant-loop-k g l = LeftPlaces (value l.dictionary) (value l.sought) l.from l.to l.k (g.M.Memory.view l.m).objects
