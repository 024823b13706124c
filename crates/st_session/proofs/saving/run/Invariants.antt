use Rattle.std.proofs.Common.{◌≡◌, ◌≤◌, ◌-◌, None}
use Rattle.st_model.specs.Machine.{State}
use Rattle.st_model.specs.Births.{Births}
use Rattle.st_model.specs.Show.{Shows}
use Rattle.st_recover.specs.inside.Archives.{Holds}
use Rattle.st_recover.specs.Commits.{Commit}
use Rattle.st_session.specs.inside.Standing.{MayGoOn, shown_by}
use Rattle.st_session.specs.Watching.{look_of}
use Rattle.st_session.proofs.Snapshots.{RanSoFar}
use Rattle.st_session.proofs.saving.run.Given as goal

-- what was done so far is the first part of the run's course, from whatever was shown and held first
abbrev pub invariant-stretches : goal.invariant-stretches
invariant-stretches g l = record {
  go_on : MayGoOn g.M.Memory.view l.kept;
  alive : l.kept.machine.death ≡ None;
  named : l.kept.archive.name ≡ l.fn.kept.archive.name;
  few : l.finished ≤ l.cycles;
  disk : g.H.Host.disk_faults l.fn.host ≤ g.H.Host.disk_faults l.host;
  say : g.H.Host.say_faults l.fn.host ≤ g.H.Host.say_faults l.host;
  ran : (s : State Births) (c : Commit) → Shows (shown_by g.M.Memory.view l.fn.kept.machine) s → Holds g.H.Host l.fn.host l.fn.kept.archive c
      → RanSoFar g.M.Memory.view g.H.Host (look_of l.watch) l.fn.kept.archive.name l.cycles s c l.finished l.kept.machine l.kept.archive l.fn.host l.host;
}

abbrev pub decreases-stretches : goal.decreases-stretches
decreases-stretches g l = l.cycles - l.finished
