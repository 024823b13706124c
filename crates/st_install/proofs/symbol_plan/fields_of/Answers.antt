use Rattle.std.proofs.Common.{◌≡◌, ◌≤◌, Err, rules, arith}
use Rattle.st_scope.specs.declared.unread.Unread.TheVariants.{Dies}
use Rattle.st_install.proofs.SymbolsOf.{no_fields, values_begin, values_die, values_more, values_end}
use Rattle.st_install.proofs.symbol_plan.fields_of.Goals as goal

pub returns-in_err-count : goal.returns-in_err-count
returns-in_err-count g c =
    let e : c.from_residual.result ≡ Err (Dies c.in_err-count.field-0.0) = search rules in
    rw e (no_fields c.args.o (g.M.Memory.view c.args.m.now).objects c.in_err-count.field-0.0 c.in_err-count.ensures.counts)

pub loop-i-init : goal.loop-i-init
loop-i-init g c = values_begin c.args.o (g.M.Memory.view c.args.m.now).objects c.in_ok-count.count c.new-fields.result.items c.new-fields.ensures.items c.in_ok-count.ensures.counts

pub returns-in_err-fetch_field : goal.returns-in_err-fetch_field
returns-in_err-fetch_field g c =
    let e : c.from_residual-in_err-fetch_field.result ≡ Err (Dies c.in_err-fetch_field.field-0.0) = search rules in
    rw e (values_die c.args.o (g.M.Memory.view c.args.m.now).objects c.in_ok-count.count c.loop-i.i c.loop-i.fields.items c.loop-i.invariant c.loop-i-test.true c.in_err-fetch_field.field-0.0 c.in_err-fetch_field.ensures.fetches)

pub loop-i-preserved : goal.loop-i-preserved
loop-i-preserved g c =
    values_more c.args.o (g.M.Memory.view c.args.m.now).objects c.in_ok-count.count c.loop-i.i c.loop-i.fields.items c.loop-i.invariant c.loop-i-test.true
    c.in_ok-fetch_field.field-0 c.push.new.self.items c.in_ok-push.ensures.items c.in_ok-fetch_field.ensures.fetches

pub returns : goal.returns
returns g c =
    let l = c.loop-i-test.false in
    let last : c.in_ok-count.count ≤ c.loop-i.i = omega (arith, l) in
    values_end c.args.o (g.M.Memory.view c.args.m.now).objects c.in_ok-count.count c.loop-i.i c.loop-i.fields.items c.loop-i.invariant last
