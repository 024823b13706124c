use Rattle.std.proofs.Common.{◌≡◌, ◌≤◌, Err, rules, arith}
use Rattle.st_model.specs.Table.{table}
use Rattle.st_install.specs.Symbols.{is_symbol, symbol_named}
use Rattle.st_scope.proofs.FirstFields.{uncounted, all_left, none_left, field_dies, field_holds, field_passed}
use Rattle.st_install.proofs.symbols.symbol_named.Goals as goal

pub returns-in_err-count : goal.returns-in_err-count
unfolding symbol_named
returns-in_err-count g c =
    let e : c.from_residual.result ≡ Err c.in_err-count.field-0.0 = search rules in
    rw e (uncounted c.args.symbols (λ v. is_symbol table v c.args.text.now) (g.M.Memory.view c.args.m.now).objects c.in_err-count.field-0.0 c.in_err-count.ensures.counts)

pub loop-i-init : goal.loop-i-init
loop-i-init g c = all_left c.args.symbols (λ v. is_symbol table v c.args.text.now) (g.M.Memory.view c.args.m.now).objects c.in_ok-count.count c.in_ok-count.ensures.counts

pub returns-in_err-member : goal.returns-in_err-member
unfolding symbol_named
returns-in_err-member g c =
    let e : c.from_residual-in_err-member.result ≡ Err c.in_err-member.field-0.0 = search rules in
    rw e (field_dies c.args.symbols (λ v. is_symbol table v c.args.text.now) (g.M.Memory.view c.args.m.now).objects c.in_ok-count.count c.loop-i.i c.loop-i-test.true c.loop-i.invariant c.in_err-member.field-0.0 c.in_err-member.ensures.fetches)

pub returns-then-is_symbol : goal.returns-then-is_symbol
unfolding symbol_named
returns-then-is_symbol g c =
    field_holds c.args.symbols (λ v. is_symbol table v c.args.text.now) (g.M.Memory.view c.args.m.now).objects c.in_ok-count.count c.loop-i.i c.loop-i-test.true c.loop-i.invariant
    c.in_ok-member.member c.in_ok-member.ensures.fetches c.is_symbol.result c.if-is_symbol.true c.is_symbol.ensures

pub loop-i-preserved : goal.loop-i-preserved
loop-i-preserved g c =
    field_passed c.args.symbols (λ v. is_symbol table v c.args.text.now) (g.M.Memory.view c.args.m.now).objects c.in_ok-count.count c.loop-i.i c.loop-i-test.true c.loop-i.invariant
    c.in_ok-member.member c.in_ok-member.ensures.fetches c.is_symbol.result c.if-is_symbol.false c.is_symbol.ensures

pub returns : goal.returns
unfolding symbol_named
returns g c =
    let l = c.loop-i-test.false in
    let last : c.in_ok-count.count ≤ c.loop-i.i = omega (arith, l) in
    none_left c.args.symbols (λ v. is_symbol table v c.args.text.now) (g.M.Memory.view c.args.m.now).objects c.in_ok-count.count c.loop-i.i last c.loop-i.invariant
