use Rattle.std.proofs.Common.{◌≡◌, ◌≤◌}
use Rattle.st_model.specs.Settled.{is_marked}
use Rattle.st_plain.specs.inside.Lists.{kept_entries}
use Rattle.st_plain.specs.inside.ListsPlain.{extent_of}
use Rattle.st_plain.proofs.Sweeping.{kept_from}
use Rattle.st_plain.proofs.objects.Objects.keep_marked.Given as goal

-- the entries of the marked names, and of those not reached yet
abbrev pub invariant-loop-k : goal.invariant-loop-k
invariant-loop-k l = record {
  entries : l.self.entries.items ≡ kept_entries l.initial.self.entries.items (kept_from (is_marked l.marks.names.items) l.k);
  pointers : l.self.pointers ≡ l.initial.self.pointers;
  units : l.self.units ≡ l.initial.self.units;
  extent : extent_of l.self ≡ extent_of l.initial.self;
  end : l.self.table_end ≡ l.initial.self.table_end;
  fewer : l.self.used.entries ≤ l.before;
}
