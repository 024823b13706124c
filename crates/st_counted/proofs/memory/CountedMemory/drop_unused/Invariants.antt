use Rattle.std.proofs.Common.{◌≡◌}
use Rattle.st_model.specs.Objects.{one}
use Rattle.st_model.specs.Table.{total_used}
use Rattle.st_model.specs.View.{view_roots}
use Rattle.st_model.proofs.Settling.{DropsTo}
use Rattle.st_memory.specs.inside.Places.{KeepsPlacesIn}
use Rattle.st_heap.specs.inside.Places.{Stands}
use Rattle.st_counted.specs.inside.Counted.{counted_view}
use Rattle.st_counted.proofs.memory.CountedMemory.drop_unused.Given as goal

-- no object is lost that a set has which supports itself
abbrev pub invariant-loop-k : goal.invariant-loop-k
invariant-loop-k l = record {
  drops : DropsTo (counted_view l.fn.self.contents).objects (counted_view l.self.contents).objects (view_roots (counted_view l.fn.self.contents));
  held : (counted_view l.self.contents).held ≡ (counted_view l.fn.self.contents).held;
  head : (counted_view l.self.contents).head ≡ (counted_view l.fn.self.contents).head;
  places : KeepsPlacesIn (counted_view l.self.contents).objects (Stands l.fn.self.contents.objects) (Stands l.self.contents.objects);
}

abbrev pub decreases-loop-k : goal.decreases-loop-k
decreases-loop-k l = total_used one (counted_view l.self.contents).objects
