use Rattle.st_first_objects.specs.inside.Placing.{Underway}
use Rattle.st_first_objects.proofs.first.place_all.Given as goal

abbrev pub invariant-loop-i : goal.invariant-loop-i
invariant-loop-i g l = Underway l.plan (g.L.Loader.loaded l.fn.loader) (g.L.Loader.loaded l.loader) l.used l.i
