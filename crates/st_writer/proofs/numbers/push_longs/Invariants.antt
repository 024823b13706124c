use Rattle.std.proofs.Common.{◌*◌, take}
use Rattle.std.specs.List.{flat_map}
use Rattle.st_writer.specs.Written.{long_bytes}
use Rattle.st_writer.proofs.Adding.{HasAdded}
use Rattle.st_writer.proofs.numbers.push_longs.Given as goal

-- the numbers so far were added
abbrev pub invariant-loop-number : goal.invariant-loop-number
invariant-loop-number g l = HasAdded g.H.Host l.name (flat_map long_bytes (take l.number-index l.numbers)) (4 * l.number-index) l.initial.host l.host l.initial.piece l.piece
