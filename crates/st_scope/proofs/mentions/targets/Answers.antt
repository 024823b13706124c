use Rattle.std.proofs.Common.{◌≡◌, ◌+◌, ◌-◌, arith}
use Rattle.st_scope.proofs.Walking.{targets_passed}
use Rattle.st_scope.proofs.mentions.targets.Goals as goal

pub loop-left-preserved : goal.loop-left-preserved
loop-left-preserved c =
    let i = c.loop-left.left - 1 in
    let one : i + 1 ≡ c.loop-left.left = omega arith in
    record {
      same = targets_passed c.args.links.now i c.loop-left.left c.index-links-left.result _ _ _ one (omega arith) c.index-links-left.is c.in_ok-target.ensures c.loop-left.invariant.same;
      within = omega arith;
    }
