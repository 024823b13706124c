use Rattle.std.proofs.Common.{◌≡◌, ◌≤◌, length}
use Rattle.st_writer.specs.Written.{used_below}
use Rattle.st_writer.proofs.table.count_entries.Given as goal

-- behind the places that are left there is no object
abbrev pub invariant-loop-count : goal.invariant-loop-count
invariant-loop-count g l = record {
  rest : used_below (g.M.Memory.view l.m).objects (length (g.M.Memory.view l.m).objects) ≡ used_below (g.M.Memory.view l.m).objects l.count;
  most : l.count ≤ 32768;
}

abbrev pub decreases-loop-count : goal.decreases-loop-count
decreases-loop-count g l = l.count
