use Rattle.std.proofs.Common.{◌+◌, ◌-◌, sym, ap, ◌∙◌}
use Rattle.st_expression_stack.specs.inside.Called.{is_kept}
use Rattle.st_expression_stack.specs.Names.{first_free}
use Rattle.st_expression_stack.proofs.NameTurns.{free_next}
use Rattle.st_expression_stack.proofs.own.first_free.Goals as goal

pub loop-i-preserved : goal.loop-i-preserved
loop-i-preserved c =
    let taken = is_kept c.args.taken.now.names.keys in
    let count = c.args.taken.now.count in
    ap (first_free taken (count - (c.loop-i.i + 1))) c.in_ok-number.ensures
    ∙ sym (free_next taken count c.loop-i.i c.loop-i.number c.loop-i-test.true (sym c.in_ok-is_taken.ensures ∙ c.if-not-branch.false))
    ∙ c.loop-i.invariant
