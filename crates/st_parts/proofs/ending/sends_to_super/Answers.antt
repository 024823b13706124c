use Rattle.std.proofs.Common.{◌+◌, drop, sym, ap, ◌∙◌, arith}
use Rattle.st_parts.specs.Parts.{sends_to_super}
use Rattle.st_parts.proofs.Sending.{super_behind, super_here, super_next, super_end}
use Rattle.st_parts.proofs.ending.sends_to_super.Goals as goal

pub returns-then-begins_super : goal.returns-then-begins_super
returns-then-begins_super c =
    super_here c.args.bytes.now c.loop-b.b-index _ c.loop-b-test.true (sends_to_super c.args.bytes.now) c.loop-b.left c.loop-b.invariant
    (sym c.if-begins_super.true ∙ c.begins_super.ensures)

pub loop-b-preserved : goal.loop-b-preserved
loop-b-preserved c =
    ap (λ n. super_behind n (drop (c.loop-b.b-index + 1) c.args.bytes.now)) c.left_after-left.ensures
    ∙ super_next c.args.bytes.now c.loop-b.b-index _ c.loop-b-test.true (sends_to_super c.args.bytes.now) c.loop-b.left c.loop-b.invariant
    (sym c.if-begins_super.false ∙ c.begins_super.ensures)

pub returns : goal.returns
returns c = super_end c.args.bytes.now c.loop-b.b-index c.loop-b.left (sends_to_super c.args.bytes.now) (omega arith) c.loop-b.invariant
