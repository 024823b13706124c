use Rattle.std.proofs.Common.{take}
use Rattle.st_model.specs.Values.{value}
use Rattle.st_model.specs.View.{object_of}
use Rattle.st_writer.proofs.Adding.{HasAdded}
use Rattle.st_writer.proofs.units.push_bytes.Given as goal

-- the bytes so far were added
abbrev pub invariant-loop-i : goal.invariant-loop-i
invariant-loop-i g l = HasAdded g.H.Host l.name (take l.i (object_of (g.M.Memory.view l.m).objects (value l.o)).units) l.i l.initial.host l.host l.initial.piece l.piece
