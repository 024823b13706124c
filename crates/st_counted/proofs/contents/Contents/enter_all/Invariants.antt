use Rattle.std.proofs.Common.{◌≡◌, ℕ, ◌<◌, ◌≤◌}
use Rattle.std.specs.Prelude.{Some, None, is_some, if◌then◌else◌}
use Rattle.st_model.specs.Table.{entry}
use Rattle.st_counted.specs.inside.Counts.{count_at}
use Rattle.st_counted.specs.inside.Counted.{counted_view, numbers_of}
use Rattle.st_counted.proofs.contents.Contents.enter_all.Given as goal

-- the objects so far are counted from 0 on
abbrev pub invariant-loop-k : goal.invariant-loop-k
invariant-loop-k l = record {
  below : (j : ℕ) → j < l.k → count_at (numbers_of l.self) j ≡ (if is_some (entry (counted_view l.initial.self).objects j) then Some 0 else None);
  above : (j : ℕ) → l.k ≤ j → count_at (numbers_of l.self) j ≡ None;
  rest : l.self ≡ record l.initial.self { counts = l.self.counts };
}
