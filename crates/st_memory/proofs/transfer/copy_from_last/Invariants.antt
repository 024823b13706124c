use Rattle.std.proofs.Common.{◌≡◌, ◌+◌, ◌≤◌, ◌-◌}
use Rattle.st_model.specs.Values.{value}
use Rattle.st_model.specs.View.{with_fields, fields_from}
use Rattle.st_memory.specs.inside.Places.{KeepsPlaces}
use Rattle.st_memory.proofs.transfer.copy_from_last.Given as goal

abbrev pub invariant-loop-left : goal.invariant-loop-left
invariant-loop-left g l = record {
  few : l.left ≤ l.n;
  objects : (g.M.Memory.view l.m).objects ≡ with_fields (g.M.Memory.view l.fn.m).objects (value l.target) (l.to + l.left) (fields_from (g.M.Memory.view l.fn.m).objects (value l.source) (l.from + l.left) (l.n - l.left));
  held : (g.M.Memory.view l.m).held ≡ (g.M.Memory.view l.fn.m).held;
  head : (g.M.Memory.view l.m).head ≡ (g.M.Memory.view l.fn.m).head;
  places : KeepsPlaces (g.M.Memory.stands l.fn.m) (g.M.Memory.stands l.m);
}

-- proposed from the loop's first test
abbrev pub decreases-loop-left : goal.decreases-loop-left
decreases-loop-left g l = l.left
