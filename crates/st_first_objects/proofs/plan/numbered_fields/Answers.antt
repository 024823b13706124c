use Rattle.std.proofs.Common.{arith, ap}
use Rattle.st_first_objects.specs.Contents.{To}
use Rattle.st_first_objects.proofs.Lists.{pushed_next, numbered_done}
use Rattle.st_first_objects.proofs.plan.numbered_fields.Goals as goal

pub loop-number-preserved : goal.loop-number-preserved
loop-number-preserved c =
    pushed_next c.loop-number.fields.items c.push.new.self.items _ c.args.what c.args.count c.loop-number.number _ c.loop-number-test.true
    c.in_ok-push.ensures.items (ap To c.numbered.ensures) c.loop-number.invariant

pub returns : goal.returns
returns c = numbered_done c.loop-number.fields.items c.args.what c.args.count c.loop-number.number _ (omega arith) c.loop-number.invariant
