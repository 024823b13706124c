use Rattle.std.proofs.Common.{◌≡◌, ◌≤◌, ◌++◌, drop, length}
use Rattle.st_print.specs.Words.{spaced}
use Rattle.st_scan.specs.inside.Chains.{links_view}
use Rattle.st_print.specs.inside.Chained.{before_links}
use Rattle.st_print.proofs.expression.before_links.Given as goal

abbrev pub invariant-loop-at : goal.invariant-loop-at
invariant-loop-at l = record {
  within : l.at ≤ length l.links;
  so_far : l.out.items ≡ l.fn.out.items ++ spaced (before_links l.outer (links_view (drop l.at l.links)));
}

abbrev pub decreases-loop-at : goal.decreases-loop-at
decreases-loop-at l = l.at
