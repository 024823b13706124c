use Rattle.std.proofs.Common.{◌≡◌}
use Rattle.st_table.specs.inside.Entries.{place}
use Rattle.st_counted.specs.inside.Links.{Holds}
use Rattle.st_counted.specs.inside.Counted.{numbers_of, SameButLinks}
use Rattle.st_counted.proofs.Below.{unused_below}
use Rattle.st_counted.proofs.contents.Contents.list_unused.Given as goal

-- the list holds what has the count 0 so far
abbrev pub invariant-loop-k : goal.invariant-loop-k
invariant-loop-k l = record {
  list : Holds l.self.objects.store (place l.self.counts.first) (unused_below (numbers_of l.fn.self) l.k);
  numbers : numbers_of l.self ≡ numbers_of l.fn.self;
  rest : SameButLinks l.fn.self l.self;
}
