use Rattle.std.proofs.Common.{◌≡◌, ◌≤◌, Err, rules, arith}
use Rattle.st_model.specs.Table.{table}
use Rattle.st_scope.specs.Tables.{has_name, member_named}
use Rattle.st_scope.proofs.FirstFields.{uncounted, all_left, none_left, field_dies, field_holds, field_passed}
use Rattle.st_scope.proofs.tables.member_named.Goals as goal

pub returns-in_err-count-clause-member : goal.returns-in_err-count-clause-member
unfolding member_named
returns-in_err-count-clause-member g c =
    let e : c.from_residual.result ≡ Err c.in_err-count.field-0.0 = search rules in
    rw e (uncounted c.args.names (λ v. has_name table v c.args.text.now) (g.M.Memory.view c.args.m.now).objects c.in_err-count.field-0.0 c.in_err-count.ensures.counts)

pub loop-i-init : goal.loop-i-init
loop-i-init g c = all_left c.args.names (λ v. has_name table v c.args.text.now) (g.M.Memory.view c.args.m.now).objects c.in_ok-count.count c.in_ok-count.ensures.counts

pub returns-in_err-member-clause-member : goal.returns-in_err-member-clause-member
unfolding member_named
returns-in_err-member-clause-member g c =
    let e : c.from_residual-in_err-member.result ≡ Err c.in_err-member.field-0.0 = search rules in
    rw e (field_dies c.args.names (λ v. has_name table v c.args.text.now) (g.M.Memory.view c.args.m.now).objects c.in_ok-count.count c.loop-i.i c.loop-i-test.true c.loop-i.invariant c.in_err-member.field-0.0 c.in_err-member.ensures.fetches)

pub returns-then-has_name-clause-member : goal.returns-then-has_name-clause-member
unfolding member_named
returns-then-has_name-clause-member g c =
    field_holds c.args.names (λ v. has_name table v c.args.text.now) (g.M.Memory.view c.args.m.now).objects c.in_ok-count.count c.loop-i.i c.loop-i-test.true c.loop-i.invariant
    c.in_ok-member.member c.in_ok-member.ensures.fetches c.has_name.result c.if-has_name.true c.has_name.ensures.named

pub loop-i-preserved : goal.loop-i-preserved
loop-i-preserved g c =
    field_passed c.args.names (λ v. has_name table v c.args.text.now) (g.M.Memory.view c.args.m.now).objects c.in_ok-count.count c.loop-i.i c.loop-i-test.true c.loop-i.invariant
    c.in_ok-member.member c.in_ok-member.ensures.fetches c.has_name.result c.if-has_name.false c.has_name.ensures.named

pub returns-clause-member : goal.returns-clause-member
unfolding member_named
returns-clause-member g c =
    let l = c.loop-i-test.false in
    let last : c.in_ok-count.count ≤ c.loop-i.i = omega (arith, l) in
    none_left c.args.names (λ v. has_name table v c.args.text.now) (g.M.Memory.view c.args.m.now).objects c.in_ok-count.count c.loop-i.i last c.loop-i.invariant
