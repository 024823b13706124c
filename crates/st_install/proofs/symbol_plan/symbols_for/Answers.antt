use Rattle.std.proofs.Common.{◌≡◌, Err, refl, rules}
use Rattle.st_emit.specs.inside.Views.{literals_view}
use Rattle.st_scope.specs.declared.unread.Unread.TheVariants.{Dies}
use Rattle.st_install.specs.Symbols.{symbols_in}
use Rattle.st_install.proofs.SymbolsOf.{no_table, fields_fail, selector_fails, literals_fail, all_named}
use Rattle.st_install.proofs.symbol_plan.symbols_for.Goals as goal

pub returns-in_err-array : goal.returns-in_err-array
returns-in_err-array g c =
    let e : c.from_residual.result ≡ Err (Dies c.in_err-array.field-0.0) = search rules in
    rw e (no_table c.args.association (g.M.Memory.view c.args.m.now).objects c.args.selector.now (symbols_in (literals_view c.args.literals.now)) c.in_err-array.field-0.0 c.in_err-array.ensures.fetches)

pub returns-in_err-fields_of : goal.returns-in_err-fields_of
returns-in_err-fields_of g c =
    let e : c.from_residual-in_err-fields_of.result ≡ Err c.in_err-fields_of.field-0.0 = search rules in
    rw e (fields_fail c.args.association (g.M.Memory.view c.args.m.now).objects c.args.selector.now (symbols_in (literals_view c.args.literals.now)) c.in_ok-array.array c.in_ok-array.ensures.fetches c.in_err-fields_of.field-0.0 c.in_err-fields_of.ensures)

pub returns-in_err-with_symbol : goal.returns-in_err-with_symbol
returns-in_err-with_symbol g c =
    let e : c.from_residual-in_err-with_symbol.result ≡ Err c.in_err-with_symbol.field-0.0 = search rules in
    rw e (selector_fails c.args.association (g.M.Memory.view c.args.m.now).objects c.args.selector.now (symbols_in (literals_view c.args.literals.now)) c.in_ok-array.array c.in_ok-array.ensures.fetches c.in_ok-fields_of.field-0.items c.in_ok-fields_of.ensures
    c.in_ok-fields_of.field-0 refl c.new.result c.new.ensures.items c.new-2.result c.new-2.ensures.items c.new-3.result c.new-3.ensures.empty c.in_err-with_symbol.field-0.0 c.with_symbol.new.plan c.in_err-with_symbol.ensures)

pub returns-in_err-name_literals : goal.returns-in_err-name_literals
returns-in_err-name_literals g c =
    let e : c.from_residual-in_err-name_literals.result ≡ Err c.in_err-name_literals.field-0.0 = search rules in
    rw e (literals_fail c.args.association (g.M.Memory.view c.args.m.now).objects c.args.selector.now (symbols_in (literals_view c.args.literals.now)) c.in_ok-array.array c.in_ok-array.ensures.fetches c.in_ok-fields_of.field-0.items c.in_ok-fields_of.ensures
    c.in_ok-fields_of.field-0 refl c.new.result c.new.ensures.items c.new-2.result c.new-2.ensures.items c.new-3.result c.new-3.ensures.empty c.with_symbol.new.plan c.in_ok-with_symbol.ensures c.in_err-name_literals.field-0.0 c.name_literals.new.plan c.in_err-name_literals.ensures)

pub returns : goal.returns
returns g c =
    all_named c.args.association (g.M.Memory.view c.args.m.now).objects c.args.selector.now (symbols_in (literals_view c.args.literals.now)) c.in_ok-array.array c.in_ok-array.ensures.fetches c.in_ok-fields_of.field-0.items c.in_ok-fields_of.ensures
    c.in_ok-fields_of.field-0 refl c.new.result c.new.ensures.items c.new-2.result c.new-2.ensures.items c.new-3.result c.new-3.ensures.empty c.with_symbol.new.plan c.in_ok-with_symbol.ensures c.name_literals.new.plan c.in_ok-name_literals.ensures
