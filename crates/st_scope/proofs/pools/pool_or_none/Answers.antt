use Rattle.std.proofs.Common.{◌≡◌, [], ◌∷◌, ◌++◌, rules, subst, sym}
use Rattle.st_model.specs.Values.{value}
use Rattle.st_model.specs.Machine.{Went}
use Rattle.st_model.specs.Table.{table}
use Rattle.st_scope.specs.Variables.{pool_or_none}
use Rattle.st_scope.specs.inside.Meanings.{values}
use Rattle.st_scope.proofs.Finding.{finds_death}
use Rattle.st_scope.proofs.PoolsOf.{no_pool, pool_uncounted, pool_counted}
use Rattle.st_scope.proofs.pools.pool_or_none.Goals as goal

pub returns-then-pool-eq2 : goal.returns-then-pool-eq2
returns-then-pool-eq2 g c = λ s e. subst (λ os. (pool_or_none table (value c.args.pool)).run s ≡ Went (values os) s) (sym c.new-pools.ensures.items) (no_pool c.args.pool s c.if-pool-eq2.true)

pub returns-in_err-count_fields : goal.returns-in_err-count_fields
returns-in_err-count_fields g c =
    finds_death _ _ _ _ c.in_err-count_fields.field-0.0 (search rules)
    (pool_uncounted c.args.pool (g.M.Memory.view c.args.m.now).objects c.if-pool-eq2.false c.in_err-count_fields.field-0.0 c.in_err-count_fields.ensures.counts)

pub returns : goal.returns
returns g c = λ s e.
    subst (λ os. (pool_or_none table (value c.args.pool)).run s ≡ Went (values os) s) (sym (subst (λ os. c.push.new.self.items ≡ os ++ c.args.pool ∷ []) c.new-pools.ensures.items c.in_ok-push.ensures.items))
    (pool_counted c.args.pool (g.M.Memory.view c.args.m.now).objects c.if-pool-eq2.false c.in_ok-count_fields.field-0 c.in_ok-count_fields.ensures.counts s e)
