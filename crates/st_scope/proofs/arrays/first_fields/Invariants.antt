use Rattle.st_model.specs.Values.{value}
use Rattle.st_scope.proofs.FieldsOf.{LeftFields}
use Rattle.st_scope.proofs.arrays.first_fields.Given as goal

-- the fields so far, and those from the next one on
abbrev pub invariant-loop-i : goal.invariant-loop-i
invariant-loop-i g l = LeftFields (value l.o) l.count (g.M.Memory.view l.m).objects l.i l.fields.items
