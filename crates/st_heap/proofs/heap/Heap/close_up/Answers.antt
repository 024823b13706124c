use Rattle.std.proofs.Common.{◌∙◌}
use Rattle.st_heap.proofs.Laying.{keeps_through}
use Rattle.st_heap.proofs.heap.Heap.close_up.Goals as goal

pub loop-k-preserved : goal.loop-k-preserved
loop-k-preserved c =
    let before = c.loop-k.invariant in
    let step = c.close-to.ensures in (
      step.tied,
      keeps_through _ _ c.args.t.now _ _ c.loop-k.t _ _ c.close-to.new.t before.1 step.keeps,
      record { held = step.same.held ∙ before.2.held; length = step.same.length ∙ before.2.length },
      step.closed,
      step.above,
      step.sum ∙ before.5,
      step.size ∙ before.6,
    )
