use Rattle.std.proofs.Common.{arith, rules}
use Rattle.st_scan.specs.inside.Chains.{link_view, links_view}
use Rattle.st_emit.specs.inside.NameViews.{names_view, scope_view}
use Rattle.st_code.specs.declared.fault.CodeFault.{CodeFault}
use Rattle.st_code.specs.Reported.{IsFault}
use Rattle.st_code.specs.inside.ChainFaults.{target_fault, targets_fault}
use Rattle.st_code.proofs.Declaring.{targets_go_on, targets_stop}
use Rattle.st_code.proofs.checking.targets.Goals as goal

pub loop-left-preserved : goal.loop-left-preserved
loop-left-preserved c = record {
  same = targets_go_on (names_view c.args.around.names.now) (scope_view c.args.around.scope.now) c.args.links.now c.loop-left.left c.index-links-left.result _ c.loop-left-test.true c.loop-left.invariant.within c.index-links-left.is c.in_ok-target.ensures c.loop-left.invariant.same;
  within = omega arith;
}

pub returns-in_err-target : goal.returns-in_err-target
returns-in_err-target c =
    let names = names_view c.args.around.names.now in
    let scope = scope_view c.args.around.scope.now in
    let stop : (f : CodeFault) → IsFault (target_fault names scope (link_view c.index-links-left.result)) f → IsFault (targets_fault names scope (links_view c.args.links.now)) f =
    targets_stop names scope c.args.links.now c.loop-left.left c.index-links-left.result _ c.loop-left-test.true c.loop-left.invariant.within c.index-links-left.is c.loop-left.invariant.same in
    search (rules, stop)
