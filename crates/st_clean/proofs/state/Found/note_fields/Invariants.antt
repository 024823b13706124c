use Rattle.std.proofs.Common.{take}
use Rattle.st_model.specs.Values.{value}
use Rattle.st_model.specs.View.{object_of}
use Rattle.st_clean.specs.inside.Found.{Notes}
use Rattle.st_clean.proofs.state.Found.note_fields.Given as goal

-- the fields so far
abbrev pub invariant-loop-i : goal.invariant-loop-i
invariant-loop-i g l = Notes (take l.i (object_of (g.M.Memory.view l.m).objects (value l.o)).fields) l.initial.self l.self
