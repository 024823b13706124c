use Rattle.std.proofs.Common.{◌+◌, sym, subst, rules}
use Rattle.st_scope.proofs.PoolsOf.{LeftPools, pools_begin, pools_end, pool_fails, pool_passed}
use Rattle.st_scope.proofs.pools.pools.Goals as goal

pub loop-class-init : goal.loop-class-init
loop-class-init g c =
    let t = (g.M.Memory.view c.args.m.now).objects in
    subst (λ tables. LeftPools c.args.classes.now t 0 tables) (sym c.new-tables.ensures.items) (pools_begin c.args.classes.now t)

pub returns-in_err-own : goal.returns-in_err-own
returns-in_err-own g c =
    pool_fails c.args.classes.now (g.M.Memory.view c.args.m.now).objects c.loop-class.class-index c.loop-class.tables.items c.loop-class.invariant _ c.loop-class-test.true c.in_err-own.field-0.0 _ (search rules) c.in_err-own.ensures

pub loop-class-preserved : goal.loop-class-preserved
loop-class-preserved g c =
    let t = (g.M.Memory.view c.args.m.now).objects in
    subst (λ tables. LeftPools c.args.classes.now t (c.loop-class.class-index + 1) tables) (sym c.in_ok-append.ensures.items)
    (pool_passed c.args.classes.now t c.loop-class.class-index c.loop-class.tables.items c.loop-class.invariant _ c.loop-class-test.true c.in_ok-own.own c.in_ok-own.ensures)

pub returns : goal.returns
returns g c = pools_end c.args.classes.now (g.M.Memory.view c.args.m.now).objects c.loop-class.class-index c.loop-class.tables.items c.loop-class.invariant c.loop-class-test.false
