use Rattle.std.proofs.Common.{◌-◌, sym, subst, rules}
use Rattle.st_model.specs.Values.{value}
use Rattle.st_scope.specs.inside.Meanings.{values, values_of}
use Rattle.st_scope.proofs.Lineages.{LeftChain, chain_begins, chain_ends, chain_too_long, chain_dies, chain_pushed}
use Rattle.st_scope.proofs.Finding.{finds_death}
use Rattle.st_scope.proofs.chains.chain.Goals as goal

pub loop-next-init : goal.loop-next-init
loop-next-init g c =
    let t = (g.M.Memory.view c.args.m.now).objects in
    subst (λ os. LeftChain c.args.least (value c.args.class) 32767 (value c.args.class) (values os) t) (sym c.new-classes.ensures.items) (chain_begins c.args.least (value c.args.class) t)

pub returns-then-left-eq0 : goal.returns-then-left-eq0
returns-then-left-eq0 g c = λ s f.
    chain_too_long c.args.least (value c.args.class) (g.M.Memory.view c.args.m.now).objects c.loop-next.left c.loop-next.next (values_of c.loop-next.classes) c.loop-next.invariant s f c.loop-next-test.true c.if-left-eq0.true

pub loop-next-preserved : goal.loop-next-preserved
loop-next-preserved g c =
    let t = (g.M.Memory.view c.args.m.now).objects in
    subst (λ os. LeftChain c.args.least (value c.args.class) (c.loop-next.left - 1) (value c.in_ok-above.above) (values os) t) (sym c.in_ok-push.ensures.items)
    (chain_pushed c.args.least (value c.args.class) t c.loop-next.left c.loop-next.next c.in_ok-above.above c.loop-next.classes.items c.loop-next.invariant c.loop-next-test.true c.if-left-eq0.false c.in_ok-above.ensures)

pub returns-in_err-above : goal.returns-in_err-above
returns-in_err-above g c =
    finds_death _ _ _ _ c.in_err-above.field-0.0 (search rules) (λ s f.
    chain_dies c.args.least (value c.args.class) (g.M.Memory.view c.args.m.now).objects c.loop-next.left c.loop-next.next (values_of c.loop-next.classes) c.loop-next.invariant c.in_err-above.field-0.0 s f
    c.loop-next-test.true c.if-left-eq0.false c.in_err-above.ensures)

pub returns : goal.returns
returns g c = λ s f.
    chain_ends c.args.least (value c.args.class) (g.M.Memory.view c.args.m.now).objects c.loop-next.left c.loop-next.next (values_of c.loop-next.classes) c.loop-next.invariant s f c.loop-next-test.false
