use Rattle.std.proofs.Common.{◌≡◌, ◌*◌, ◌≤◌}
use Rattle.st_writer.specs.Written.{entries_below, words_below}
use Rattle.st_writer.proofs.Adding.{HasAdded}
use Rattle.st_writer.proofs.table.push_entries.Given as goal

-- the entries so far were added, and so many words come before the next object
abbrev pub invariant-loop-k : goal.invariant-loop-k
invariant-loop-k g l = record {
  added : HasAdded g.H.Host l.name (entries_below (g.M.Memory.view l.m).objects l.k) (6 * l.k) l.initial.host l.host l.initial.piece l.piece;
  at : l.at ≡ words_below (g.M.Memory.view l.m).objects l.k;
  few : l.at ≤ 65535 * l.k;
}
