use Rattle.std.proofs.Common.{◌≤◌, ◌++◌, drop, replicate}
use Rattle.std.specs.Prelude.{None, slice_set}
use Rattle.st_model.specs.Values.{value}
use Rattle.st_model.specs.Objects.{nil}
use Rattle.st_model.specs.View.{object_of}
use Rattle.st_table.specs.inside.Entries.{place}
use Rattle.st_heap.specs.inside.Places.{SamePlaces}
use Rattle.st_counted.specs.inside.References.{all_roots, IsCounted}
use Rattle.st_counted.specs.inside.Counted.{counted_view, numbers_of, SameButLinks}
use Rattle.st_counted.specs.inside.Links.{IsListed}
use Rattle.st_counted.proofs.contents.Contents.lower_fields.Given as goal

-- what is left of the fields is in hand, and nil as often as it was met
abbrev pub invariant-loop-i : goal.invariant-loop-i
invariant-loop-i l = record {
  counted : IsCounted (slice_set (counted_view l.initial.self).objects (place l.o) None) (all_roots (counted_view l.initial.self)) (replicate l.nils nil ++ drop l.i (object_of (counted_view l.initial.self).objects (value l.o)).fields) (numbers_of l.self);
  few : l.nils ≤ l.i;
  listed : IsListed l.self.objects l.self.counts;
  rest : SameButLinks l.initial.self l.self;
  places : SamePlaces l.initial.self.objects.store l.self.objects.store;
}
