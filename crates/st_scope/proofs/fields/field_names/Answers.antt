use Rattle.std.proofs.Common.{◌≡◌, ◌+◌, ◌-◌, length, refl, sym, subst, arith, rules}
use Rattle.st_scope.proofs.TextsOf.{LastNames, last_begin, last_end, last_more, last_fails}
use Rattle.st_scope.proofs.fields.field_names.Goals as goal

pub loop-left-init : goal.loop-left-init
loop-left-init g c =
    let t = (g.M.Memory.view c.args.m.now).objects in
    subst (λ texts. LastNames c.args.classes.now t (length c.args.classes.now) texts) (sym c.new-names.ensures.items) (last_begin c.args.classes.now t (length c.args.classes.now) refl)

pub returns-in_err-own : goal.returns-in_err-own
returns-in_err-own g c =
    let i = c.loop-left.left - 1 in
    let one : i + 1 ≡ c.loop-left.left = omega arith in
    last_fails c.args.classes.now (g.M.Memory.view c.args.m.now).objects i c.loop-left.left one _ c.loop-left.names.items c.loop-left.invariant c.in_err-own.field-0.0 _ (search rules) c.in_err-own.ensures

pub loop-left-preserved : goal.loop-left-preserved
loop-left-preserved g c =
    let t = (g.M.Memory.view c.args.m.now).objects in
    let i = c.loop-left.left - 1 in
    let one : i + 1 ≡ c.loop-left.left = omega arith in
    subst (λ texts. LastNames c.args.classes.now t i texts) (sym c.in_ok-append.ensures.items)
    (last_more c.args.classes.now t i c.loop-left.left one _ c.loop-left.names.items c.loop-left.invariant c.in_ok-own.own c.in_ok-own.ensures)

pub returns : goal.returns
returns g c = last_end c.args.classes.now (g.M.Memory.view c.args.m.now).objects c.loop-left.left c.loop-left.names.items c.loop-left.invariant c.loop-left-test.false
