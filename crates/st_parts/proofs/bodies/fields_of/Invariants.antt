use Rattle.std.proofs.Common.{◌≡◌, take}
use Rattle.st_model.specs.Values.{value}
use Rattle.st_model.specs.View.{object_of}
use Rattle.st_scope.specs.inside.Meanings.{values}
use Rattle.st_parts.proofs.bodies.fields_of.Given as goal

abbrev pub invariant-loop-i : goal.invariant-loop-i
invariant-loop-i g l = values l.fields.items ≡ take l.i (object_of (g.M.Memory.view l.m).objects (value l.o)).fields
