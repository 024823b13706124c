use Rattle.std.proofs.Common.{◌≡◌, take}
use Rattle.st_model.specs.Values.{value}
use Rattle.st_model.specs.View.{object_of}
use Rattle.st_counted.specs.inside.References.{AddsReferences}
use Rattle.st_counted.specs.inside.Counted.{counted_view, numbers_of}
use Rattle.st_counted.proofs.contents.Contents.raise_fields.Given as goal

-- what the fields so far name is counted
abbrev pub invariant-loop-i : goal.invariant-loop-i
invariant-loop-i l = record {
  adds : AddsReferences (counted_view l.initial.self).objects (numbers_of l.initial.self) (numbers_of l.self) (take l.i (object_of (counted_view l.initial.self).objects (value l.o)).fields);
  rest : l.self ≡ record l.initial.self { counts = l.self.counts };
}
