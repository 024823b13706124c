use Rattle.std.proofs.Common.{◌≡◌, take}
use Rattle.st_model.specs.Values.{value}
use Rattle.st_model.specs.View.{object_of}
use Rattle.st_scope.proofs.reading.has_bytes.Given as goal

-- the bytes so far are the same
abbrev pub invariant-loop-i : goal.invariant-loop-i
invariant-loop-i g l = take l.i (object_of (g.M.Memory.view l.m).objects (value l.o)).units ≡ take l.i l.text
