use Rattle.std.proofs.Common.{◌≡◌, map, take}
use Rattle.st_model.specs.Values.{value}
use Rattle.st_counted.specs.inside.References.{AddsReferences}
use Rattle.st_counted.specs.inside.Counted.{counted_view, numbers_of}
use Rattle.st_counted.proofs.contents.Contents.raise_all.Given as goal

-- what the words so far name is counted
abbrev pub invariant-loop-o : goal.invariant-loop-o
invariant-loop-o l = record {
  adds : AddsReferences (counted_view l.initial.self).objects (numbers_of l.initial.self) (numbers_of l.self) (map value (take l.o-index l.words));
  rest : l.self ≡ record l.initial.self { counts = l.self.counts };
}
