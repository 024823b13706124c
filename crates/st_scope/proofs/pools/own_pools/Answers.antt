use Rattle.std.proofs.Common.{rules}
use Rattle.st_model.specs.Values.{value}
use Rattle.st_scope.specs.Variables.{own_pools}
use Rattle.st_scope.specs.inside.Meanings.{values_of}
use Rattle.st_scope.proofs.Finding.{first_dies, first_fails, then_finds}
use Rattle.st_scope.proofs.PoolsOf.{own_and_shared}
use Rattle.st_scope.proofs.pools.own_pools.Goals as goal

pub returns-in_err-pool : goal.returns-in_err-pool
unfolding own_pools
returns-in_err-pool g c = first_dies values_of value _ _ _ _ c.in_err-pool.field-0.0 (search rules) c.in_err-pool.ensures.fetches

pub returns-in_err-own : goal.returns-in_err-own
unfolding own_pools
returns-in_err-own g c = then_finds values_of value _ _ _ _ c.in_ok-pool.pool c.in_ok-pool.ensures.fetches (first_fails values_of values_of _ _ _ _ c.in_err-own.field-0.0 (search rules) c.in_err-own.ensures)

pub returns-in_err-array : goal.returns-in_err-array
unfolding own_pools
returns-in_err-array g c =
    then_finds values_of value _ _ _ _ c.in_ok-pool.pool c.in_ok-pool.ensures.fetches
    (then_finds values_of values_of _ _ _ _ c.in_ok-own.own c.in_ok-own.ensures (first_dies values_of value _ _ _ _ c.in_err-array.field-0.0 (search rules) c.in_err-array.ensures.fetches))

pub returns-in_err-shared : goal.returns-in_err-shared
unfolding own_pools
returns-in_err-shared g c =
    then_finds values_of value _ _ _ _ c.in_ok-pool.pool c.in_ok-pool.ensures.fetches
    (then_finds values_of values_of _ _ _ _ c.in_ok-own.own c.in_ok-own.ensures
    (then_finds values_of value _ _ _ _ c.in_ok-array.array c.in_ok-array.ensures.fetches (first_fails values_of values_of _ _ _ _ c.in_err-shared.field-0.0 (search rules) c.in_err-shared.ensures)))

pub returns : goal.returns
returns g c =
    own_and_shared (value c.args.class) (g.M.Memory.view c.args.m.now).objects c.in_ok-pool.pool c.in_ok-pool.ensures.fetches c.in_ok-own.own c.in_ok-own.ensures c.in_ok-array.array c.in_ok-array.ensures.fetches
    c.in_ok-shared.shared c.in_ok-shared.ensures _ c.in_ok-append.ensures.items
