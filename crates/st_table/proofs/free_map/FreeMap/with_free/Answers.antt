use Rattle.std.proofs.Common.{arith, ◌∙◌}
use Rattle.st_table.proofs.Search.{freed}
use Rattle.st_table.proofs.free_map.FreeMap.with_free.Goals as goal

pub loop-k-preserved : goal.loop-k-preserved
loop-k-preserved c =
    let before = c.loop-k.invariant in
    let others = c.free.ensures.others in
    (freed _ _ c.loop-k.k before.0 c.free.ensures.free others, others 0 (omega arith) ∙ before.1, λ j up down. others j (omega (arith, up)) ∙ before.2 j (omega (arith, up)) down)
