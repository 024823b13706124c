use Rattle.std.proofs.Common.{◌+◌, sym, subst, rules}
use Rattle.st_scope.proofs.TextsOf.{LeftNames, names_begin, names_end, name_fails, name_passed}
use Rattle.st_scope.proofs.fields.names_of.Goals as goal

pub loop-o-init : goal.loop-o-init
loop-o-init g c =
    let t = (g.M.Memory.view c.args.m.now).objects in
    subst (λ texts. LeftNames c.args.list.now t 0 texts) (sym c.new-names.ensures.items) (names_begin c.args.list.now t)

pub returns-in_err-name_of : goal.returns-in_err-name_of
returns-in_err-name_of g c =
    name_fails c.args.list.now (g.M.Memory.view c.args.m.now).objects c.loop-o.o-index c.loop-o.names.items c.loop-o.invariant _ c.loop-o-test.true c.in_err-name_of.field-0.0 _ (search rules) c.in_err-name_of.ensures

pub loop-o-preserved : goal.loop-o-preserved
loop-o-preserved g c =
    let t = (g.M.Memory.view c.args.m.now).objects in
    subst (λ texts. LeftNames c.args.list.now t (c.loop-o.o-index + 1) texts) (sym c.in_ok-push.ensures.items)
    (name_passed c.args.list.now t c.loop-o.o-index c.loop-o.names.items c.loop-o.invariant _ c.loop-o-test.true c.in_ok-name_of.field-0 c.in_ok-name_of.ensures)

pub returns : goal.returns
returns g c = names_end c.args.list.now (g.M.Memory.view c.args.m.now).objects c.loop-o.o-index c.loop-o.names.items c.loop-o.invariant c.loop-o-test.false
