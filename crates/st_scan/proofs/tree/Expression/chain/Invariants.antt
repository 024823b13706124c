use Rattle.std.proofs.Common.{◌≡◌, ◌≤◌, All, reverse}
use Rattle.st_scan.specs.declared.tree.Expression.{size-Expression}
use Rattle.st_scan.specs.Views.{expression_view}
use Rattle.st_scan.specs.inside.Chains.{linked, links_view, IsBelow}
use Rattle.st_scan.proofs.tree.Expression.chain.Given as goal

abbrev pub invariant-loop-start : goal.invariant-loop-start
invariant-loop-start l = record {
  whole : linked (expression_view l.start) (links_view (reverse l.links.items)) ≡ expression_view l.self;
  start : size-Expression l.start ≤ size-Expression l.self;
  links : All (IsBelow (size-Expression l.self)) l.links.items;
}
