use Rattle.std.proofs.Common.{◌≡◌, ◌≤◌, take, length}
use Rattle.st_scan.specs.inside.Chains.{links_view}
use Rattle.st_emit.specs.inside.NameViews.{names_view, scope_view}
use Rattle.st_code.specs.inside.ChainFaults.{targets_fault}
use Rattle.st_code.proofs.checking.targets.Given as goal

abbrev pub invariant-loop-left : goal.invariant-loop-left
invariant-loop-left l = record {
  same : targets_fault (names_view l.around.names.now) (scope_view l.around.scope.now) (links_view (take l.left l.links)) ≡ targets_fault (names_view l.around.names.now) (scope_view l.around.scope.now) (links_view l.links);
  within : l.left ≤ length l.links;
}

abbrev pub decreases-loop-left : goal.decreases-loop-left
decreases-loop-left l = l.left
