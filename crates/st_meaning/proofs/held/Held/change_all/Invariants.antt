use Rattle.std.proofs.Common.{◌≡◌, drop}
use Rattle.st_meaning.specs.inside.Runs.{all_changed}
use Rattle.st_meaning.specs.inside.Courses.{held_of, IsTable}
use Rattle.st_meaning.proofs.held.Held.change_all.Given as goal

abbrev pub invariant-loop-change : goal.invariant-loop-change
invariant-loop-change l = record {
  held : all_changed (drop l.change-index l.changes) (held_of l.self) ≡ all_changed l.changes (held_of l.fn.self);
  table : IsTable l.self;
}
