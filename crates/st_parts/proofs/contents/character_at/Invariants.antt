use Rattle.st_model.specs.Values.{value}
use Rattle.st_model.specs.View.{object_of}
use Rattle.st_parts.proofs.Turns.{LeftAmong}
use Rattle.st_parts.proofs.contents.character_at.Given as goal

abbrev pub invariant-loop-n : goal.invariant-loop-n
invariant-loop-n g l = LeftAmong (object_of (g.M.Memory.view l.m).objects (value (record { 0 = 50 }))).fields (value l.v) l.n
