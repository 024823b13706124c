use Rattle.st_scope.specs.inside.Meanings.{values}
use Rattle.st_install.proofs.Going.{Left}
use Rattle.st_install.proofs.Filled.{objects_from}
use Rattle.st_install.proofs.filling.fill_all.Given as goal

-- the objects from one on are left
abbrev pub invariant-loop-i : goal.invariant-loop-i
invariant-loop-i g l =
    let from = objects_from (values l.made) l.made l.objects in
    Left (from 0) (from l.i) (g.M.Memory.view l.fn.m) (g.M.Memory.view l.m)
