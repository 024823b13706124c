use Rattle.std.proofs.Common.{◌*◌}
use Rattle.st_writer.specs.Written.{space_below}
use Rattle.st_writer.proofs.Adding.{HasAdded}
use Rattle.st_writer.proofs.table.push_objects.Given as goal

-- the objects so far were added, each of at most 65535 words
abbrev pub invariant-loop-k : goal.invariant-loop-k
invariant-loop-k g l = HasAdded g.H.Host l.name (space_below (g.M.Memory.view l.m).objects l.k) (131072 * l.k) l.initial.host l.host l.initial.piece l.piece
