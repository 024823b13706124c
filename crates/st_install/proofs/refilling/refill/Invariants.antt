use Rattle.st_model.specs.Values.{value}
use Rattle.st_install.proofs.Going.{Remains}
use Rattle.st_install.proofs.Refills.{places_from}
use Rattle.st_install.proofs.refilling.refill.Given as goal

-- the places from one on are left
abbrev pub invariant-loop-k : goal.invariant-loop-k
invariant-loop-k g l =
    let from = places_from (value l.old) (value l.new) l.places in
    Remains (from 0) (from l.k) (g.M.Memory.view l.fn.m) (g.M.Memory.view l.m)
