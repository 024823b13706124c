use Rattle.std.proofs.Common.{◌≡◌, ◌≤◌, ◌++◌, take, length}
use Rattle.st_scan.specs.inside.Chains.{links_view}
use Rattle.st_scope.specs.inside.Walks.{mentions_of, targets_mentioned}
use Rattle.st_scope.proofs.mentions.targets.Given as goal

abbrev pub invariant-loop-left : goal.invariant-loop-left
invariant-loop-left l = record {
  same : mentions_of l.names.items ++ targets_mentioned (links_view (take l.left l.links)) ≡ mentions_of l.fn.names.items ++ targets_mentioned (links_view l.links);
  within : l.left ≤ length l.links;
}

abbrev pub decreases-loop-left : goal.decreases-loop-left
decreases-loop-left l = l.left
