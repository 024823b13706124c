use Rattle.std.proofs.Common.{◌≡◌, take}
use Rattle.st_model.specs.Values.{value}
use Rattle.st_model.specs.View.{object_of}
use Rattle.st_scope.proofs.fields.copied.Given as goal

-- the bytes so far
abbrev pub invariant-loop-i : goal.invariant-loop-i
invariant-loop-i g l = l.text.items ≡ take l.i (object_of (g.M.Memory.view l.m).objects (value l.o)).units
