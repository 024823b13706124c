use Rattle.std.proofs.Common.{arith, ap, sym, ◌∙◌, ◌+◌, ◌-◌}
use Rattle.st_first_objects.specs.Orders.{Order, want, want_all, numbered_from}
use Rattle.st_first_objects.proofs.Wanting.{numbered_next, numbered_none}
use Rattle.st_first_objects.proofs.ordering.want_numbered.Goals as goal

pub loop-number-preserved : goal.loop-number-preserved
loop-number-preserved c =
    let rest = numbered_from c.args.what (c.loop-number.number + 1) (c.args.count - (c.loop-number.number + 1)) in
    ap (λ (o : Order). want_all o rest) (c.in_ok-want.ensures ∙ ap (want c.loop-number.order) c.numbered.ensures)
    ∙ ap (want_all c.loop-number.order) (sym (numbered_next c.args.what c.loop-number.number c.args.count c.loop-number-test.true))
    ∙ c.loop-number.invariant

pub returns : goal.returns
returns c =
    ap (want_all c.loop-number.order) (sym (numbered_none c.args.what c.loop-number.number c.args.count (omega arith)))
    ∙ c.loop-number.invariant
