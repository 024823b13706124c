use Rattle.std.proofs.Common.{◌≡◌}
use Rattle.st_counted.specs.inside.References.{uses_below, IsTallied}
use Rattle.st_counted.specs.inside.Counted.{counted_view, numbers_of}
use Rattle.st_counted.proofs.contents.Contents.raise_objects.Given as goal

-- what the objects so far refer to is counted
abbrev pub invariant-loop-k : goal.invariant-loop-k
invariant-loop-k l = record {
  tallied : IsTallied (counted_view l.initial.self).objects (λ j. uses_below j (counted_view l.initial.self).objects l.k) (numbers_of l.self);
  rest : l.self ≡ record l.initial.self { counts = l.self.counts };
}
