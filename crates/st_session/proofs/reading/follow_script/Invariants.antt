use Rattle.std.proofs.Common.{◌≡◌, ◌≤◌, ◌+◌, ◌++◌, List, ℕ, length, IsTrue, Ok}
use Rattle.st_chunk.specs.Reading.{line_from}
use Rattle.st_chunk.specs.Scripts.{told_from, read_through}
use Rattle.st_install.specs.Defining.{installed}
use Rattle.st_recover.specs.Commits.{Commit}
use Rattle.st_session.specs.Keeping.{in_a_store}
use Rattle.st_session.specs.Points.{Point}
use Rattle.st_session.specs.Sessions.{follow, longest}
use Rattle.st_session.specs.inside.Standing.{MayGoOn, IsAt}
use Rattle.st_session.proofs.Points.{GoesAs}
use Rattle.st_session.proofs.reading.follow_script.Given as goal

-- what the bytes so far tell was done, and so many more may come
abbrev pub invariant-pieces : goal.invariant-pieces
invariant-pieces g l = record {
  size : length l.piece ≡ 512;
  go_on : MayGoOn g.M.Memory.view l.kept;
  named : l.kept.archive.name ≡ l.fn.kept.archive.name;
  disk : g.H.Host.disk_faults l.fn.host ≤ g.H.Host.disk_faults l.host;
  say : g.H.Host.say_faults l.fn.host ≤ g.H.Host.say_faults l.host;
  reads : g.S.Source.read_faults l.fn.script ≤ g.S.Source.read_faults l.script;
  far : (front : List ℕ) × (IsTrue g.S.Source.is_told → g.S.Source.remaining l.fn.script ≡ front ++ g.S.Source.remaining l.script)
      × (length front + l.left ≡ longest) × (l.reader ≡ read_through (line_from 1) front)
      × ((p : Point Commit) → IsAt g.M.Memory.view g.H.Host l.fn.kept.machine l.fn.kept.archive l.fn.host p
      → GoesAs g.M.Memory.view g.H.Host l.fn.kept.archive.name l.kept.machine l.kept.archive l.fn.host l.host p.kept (follow in_a_store installed p (told_from (line_from 1) front)) (Ok tt));
}

abbrev pub decreases-pieces : goal.decreases-pieces
decreases-pieces g l = l.left
