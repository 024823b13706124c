use Rattle.std.proofs.Common.{ap, ◌∙◌, arith}
use Rattle.st_scan.specs.Views.{statements_view}
use Rattle.st_parts.specs.Keys.{with_mentioned}
use Rattle.st_parts.proofs.KeysIn.{keys_begin, keys_next, keys_end}
use Rattle.st_parts.proofs.naming.keys_mentioned.Goals as goal

pub loop-v-init : goal.loop-v-init
loop-v-init g c = keys_begin (g.M.Memory.view c.args.m.now).objects c.args.vs.now _ (ap statements_view c.new-statements.ensures.items)

pub loop-v-preserved : goal.loop-v-preserved
loop-v-preserved g c =
    let ss = statements_view c.loop-v.statements.items in
    keys_next (g.M.Memory.view c.args.m.now).objects c.args.vs.now c.loop-v.v-index _ c.loop-v-test.true ss (statements_view c.mention.new.statements.items) c.loop-v.invariant
    (c.in_ok-mention.ensures ∙ ap (with_mentioned ss) c.in_ok-key.ensures)

pub returns : goal.returns
returns g c = keys_end (g.M.Memory.view c.args.m.now).objects c.args.vs.now c.loop-v.v-index (statements_view c.loop-v.statements.items) (omega arith) c.loop-v.invariant
