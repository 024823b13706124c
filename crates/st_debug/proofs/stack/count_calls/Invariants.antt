use Rattle.std.proofs.Common.{◌≤◌, ◌-◌}
use Rattle.st_model.specs.Values.{value}
use Rattle.st_debug.proofs.Walked.{Counts}
use Rattle.st_debug.proofs.stack.count_calls.Given as goal

-- so many contexts, and those from here on, are all
abbrev pub invariant-contexts : goal.invariant-contexts
invariant-contexts g l = record {
  within : l.count ≤ l.most;
  counts : Counts (g.M.Memory.view l.m).objects l.most l.count (value l.fn.active) (value l.context);
}

abbrev pub decreases-contexts : goal.decreases-contexts
decreases-contexts g l = l.most - l.count
