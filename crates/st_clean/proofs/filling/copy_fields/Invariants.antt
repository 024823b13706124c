use Rattle.st_model.specs.Values.{value}
use Rattle.st_model.specs.View.{object_of}
use Rattle.st_clean.specs.Filling.{PutsPart}
use Rattle.st_clean.proofs.filling.copy_fields.Given as goal

-- the fields so far
abbrev pub invariant-loop-i : goal.invariant-loop-i
invariant-loop-i g l = PutsPart (g.L.Loader.loaded l.fn.loader) (g.L.Loader.loaded l.loader) (value l.o) l.i 0 (object_of (g.M.Memory.view l.m).objects (value l.o))
