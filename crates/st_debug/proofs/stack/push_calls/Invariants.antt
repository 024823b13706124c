use Rattle.std.proofs.Common.{◌≤◌, ◌-◌}
use Rattle.st_model.specs.Values.{value}
use Rattle.st_debug.proofs.Walked.{AddsSome}
use Rattle.st_debug.proofs.stack.push_calls.Given as goal

-- the lines of so many contexts were added, and those from here on are left
abbrev pub invariant-contexts : goal.invariant-contexts
invariant-contexts g l = record {
  within : l.count ≤ l.most;
  adds : AddsSome (g.M.Memory.view l.m).objects g.H.Host l.most (value l.fn.active) l.count (value l.context) l.initial.host l.host l.initial.out l.out;
}

abbrev pub decreases-contexts : goal.decreases-contexts
decreases-contexts g l = l.most - l.count
