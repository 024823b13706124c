use Rattle.std.proofs.Common.{length, ap, arith}
use Rattle.st_parse.proofs.Assigning.{target_turn, target_end}
use Rattle.st_parse.proofs.names.targets.Goals as goal

pub loop-name-preserved : goal.loop-name-preserved
loop-name-preserved c =
    target_turn c.args.text.now c.loop-name.names.items _ c.in_ok-name_of.field-0 c.loop-name.rest.now c.in-Some.after.now c.in-Some.name _ c.in_ok-push.ensures.items c.in_ok-name_of.ensures c.in-Some.ensures c.loop-name.invariant

pub loop-name-smaller : goal.loop-name-smaller
loop-name-smaller c = omega (arith, ap length c.in-Some.ensures.parts)

pub returns : goal.returns
returns c = target_end c.args.text.now c.loop-name.names.items c.loop-name.rest.now _ c.in_default.ensures c.loop-name.invariant
