use Rattle.st_scope.specs.inside.Meanings.{values}
use Rattle.st_install.proofs.Going.{Remains}
use Rattle.st_install.proofs.Stores.{stores_from}
use Rattle.st_install.proofs.storing.store_all.Given as goal

-- the stores from one on are left
abbrev pub invariant-loop-i : goal.invariant-loop-i
invariant-loop-i g l =
    let from = stores_from (values l.made) l.stores in
    Remains (from 0) (from l.i) (g.M.Memory.view l.fn.m) (g.M.Memory.view l.m)
