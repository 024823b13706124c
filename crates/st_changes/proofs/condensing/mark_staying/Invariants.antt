use Rattle.std.proofs.Common.{◌≡◌, length, take, drop}
use Rattle.st_changes.specs.inside.Views.{definitions_of}
use Rattle.st_changes.specs.Condensing.{Stays, kept_by}
use Rattle.st_changes.proofs.condensing.mark_staying.Given as goal

abbrev pub invariant-loop-i : goal.invariant-loop-i
invariant-loop-i l = record {
  many : length l.marks.items ≡ l.i;
  stays : Stays (definitions_of (drop l.i l.listed)) (definitions_of (take l.i l.listed)) (kept_by l.marks.items (definitions_of (take l.i l.listed)));
}
