use Rattle.std.proofs.Common.{◌≡◌}
use Rattle.st_model.specs.Values.{value}
use Rattle.st_model.specs.View.{with_fields, fields_from}
use Rattle.st_memory.specs.inside.Places.{KeepsPlaces}
use Rattle.st_memory.proofs.transfer.copy_from_first.Given as goal

abbrev pub invariant-loop-done : goal.invariant-loop-done
invariant-loop-done g l = record {
  objects : (g.M.Memory.view l.m).objects ≡ with_fields (g.M.Memory.view l.fn.m).objects (value l.target) l.to (fields_from (g.M.Memory.view l.fn.m).objects (value l.source) l.from l.done);
  held : (g.M.Memory.view l.m).held ≡ (g.M.Memory.view l.fn.m).held;
  head : (g.M.Memory.view l.m).head ≡ (g.M.Memory.view l.fn.m).head;
  places : KeepsPlaces (g.M.Memory.stands l.fn.m) (g.M.Memory.stands l.m);
}
