use Rattle.std.proofs.Common.{take, map}
use Rattle.st_model.specs.Values.{value}
use Rattle.st_clean.specs.inside.Found.{Notes}
use Rattle.st_clean.proofs.state.Found.note_all.Given as goal

-- the words so far
abbrev pub invariant-loop-o : goal.invariant-loop-o
invariant-loop-o l = Notes (map value (take l.o-index l.words)) l.initial.self l.self
