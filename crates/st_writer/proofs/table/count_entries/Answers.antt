use Rattle.std.proofs.Common.{sym, ◌∙◌, arith}
use Rattle.st_writer.proofs.Places.{used_skip, used_stop, used_none}
use Rattle.st_writer.proofs.table.count_entries.Goals as goal

pub loop-count-preserved : goal.loop-count-preserved
loop-count-preserved g c =
    let t = (g.M.Memory.view c.args.m.now).objects in
    record {
      rest = c.loop-count.invariant.rest ∙ used_skip t c.loop-count.count _ c.loop-count-test.true c.pointer_of.ensures (sym c.live.ensures ∙ c.if-not-live.true);
      most = omega arith;
    }

pub returns-else-not-live-clause-count : goal.returns-else-not-live-clause-count
returns-else-not-live-clause-count g c =
    let t = (g.M.Memory.view c.args.m.now).objects in
    sym (c.loop-count.invariant.rest ∙ used_stop t c.loop-count.count _ c.loop-count-test.true c.pointer_of.ensures (sym c.live.ensures ∙ c.if-not-live.false))

pub returns-after-loop-count-clause-count : goal.returns-after-loop-count-clause-count
returns-after-loop-count-clause-count g c =
    let t = (g.M.Memory.view c.args.m.now).objects in
    sym (c.loop-count.invariant.rest ∙ used_none t c.loop-count.count (omega arith))
