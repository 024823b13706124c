use Rattle.st_model.specs.Settled.{is_marked}
use Rattle.st_clean.specs.Filling.{FilledBelow}
use Rattle.st_clean.proofs.filling.fill.Given as goal

-- the places so far
abbrev pub invariant-loop-k : goal.invariant-loop-k
invariant-loop-k g l = FilledBelow (is_marked l.marks) l.k (g.M.Memory.view l.m) (g.L.Loader.loaded l.loader)
