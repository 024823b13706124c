use Rattle.st_install.proofs.Makings.{LeftMakes}
use Rattle.st_install.proofs.making.make_all.Given as goal

-- the objects from one on are to be made
abbrev pub invariant-loop-i : goal.invariant-loop-i
invariant-loop-i g l = LeftMakes l.objects l.i l.made (g.M.Memory.view l.fn.m) (g.M.Memory.view l.m)
