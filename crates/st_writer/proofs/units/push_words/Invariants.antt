use Rattle.std.proofs.Common.{◌*◌, take}
use Rattle.std.specs.List.{flat_map}
use Rattle.st_model.specs.Values.{value}
use Rattle.st_model.specs.View.{object_of}
use Rattle.st_writer.specs.Written.{word_bytes}
use Rattle.st_writer.proofs.Adding.{HasAdded}
use Rattle.st_writer.proofs.units.push_words.Given as goal

-- the words so far were added
abbrev pub invariant-loop-i : goal.invariant-loop-i
invariant-loop-i g l = HasAdded g.H.Host l.name (flat_map word_bytes (take l.i (object_of (g.M.Memory.view l.m).objects (value l.o)).units)) (2 * l.i) l.initial.host l.host l.initial.piece l.piece
