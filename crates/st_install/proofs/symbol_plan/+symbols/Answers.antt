use Rattle.std.proofs.Common.{◌≡◌, Err, ap, rules}
use Rattle.st_emit.specs.declared.literal.Literal.{Literal}
use Rattle.st_emit.specs.inside.Views.{literal_view}
use Rattle.st_install.specs.Symbols.{symbols_of}
use Rattle.st_install.proofs.SymbolsOf.{symbol_named_by, no_symbols, array_named_by, names_fail, names_more, names_end}
use Rattle.st_install.proofs.symbol_plan.+symbols.Goals as goal

pub name_literal-returns-in-Symbol : goal.name_literal-returns-in-Symbol
name_literal-returns-in-Symbol g t c =
    symbol_named_by c.args.association c.args.array (g.M.Memory.view c.args.m.now).objects c.args.plan.now c.with_symbol.new.plan c.args.literal.now c.in-Symbol.text c.deref.result.now c.in-Symbol.is c.deref.ensures.value c.with_symbol.result c.with_symbol.ensures

pub name_literal-returns-in-Array : goal.name_literal-returns-in-Array
name_literal-returns-in-Array g t c =
    array_named_by c.args.association c.args.array (g.M.Memory.view c.args.m.now).objects c.args.plan.now c.name_literals.new.plan c.args.literal.now c.in-Array.members c.deref-in-Array.result.now c.in-Array.is c.deref-in-Array.ensures.value c.name_literals.result c.name_literals.ensures

pub name_literal-returns-in-Number : goal.name_literal-returns-in-Number
name_literal-returns-in-Number g t c =
    no_symbols c.args.association c.args.array (g.M.Memory.view c.args.m.now).objects c.args.plan.now c.args.literal.now (ap (λ (z : Literal). symbols_of (literal_view z)) c.in-Number.is)

pub name_literal-returns-in-Character : goal.name_literal-returns-in-Character
name_literal-returns-in-Character g t c =
    no_symbols c.args.association c.args.array (g.M.Memory.view c.args.m.now).objects c.args.plan.now c.args.literal.now (ap (λ (z : Literal). symbols_of (literal_view z)) c.in-Character.is)

pub name_literal-returns-in-Bytes : goal.name_literal-returns-in-Bytes
name_literal-returns-in-Bytes g t c =
    no_symbols c.args.association c.args.array (g.M.Memory.view c.args.m.now).objects c.args.plan.now c.args.literal.now (ap (λ (z : Literal). symbols_of (literal_view z)) c.in-Bytes.is)

pub name_literal-returns-in-Named : goal.name_literal-returns-in-Named
name_literal-returns-in-Named g t c =
    no_symbols c.args.association c.args.array (g.M.Memory.view c.args.m.now).objects c.args.plan.now c.args.literal.now (ap (λ (z : Literal). symbols_of (literal_view z)) c.in-Named.is)

pub name_literal-returns-in-Owner : goal.name_literal-returns-in-Owner
name_literal-returns-in-Owner g t c =
    no_symbols c.args.association c.args.array (g.M.Memory.view c.args.m.now).objects c.args.plan.now c.args.literal.now (ap (λ (z : Literal). symbols_of (literal_view z)) c.in-Owner.is)

pub name_literals-returns-in_err-name_literal : goal.name_literals-returns-in_err-name_literal
name_literals-returns-in_err-name_literal g t c =
    let e : c.from_residual.result ≡ Err c.in_err-name_literal.field-0.0 = search rules in
    rw e (names_fail c.args.association c.args.array (g.M.Memory.view c.args.m.now).objects c.args.literals.now c.args.plan.now c.loop-literal.plan c.loop-literal.literal-index c.loop-literal.invariant
    c.literal-item.result c.loop-literal-test.true c.literal-item.is c.in_err-name_literal.field-0.0 c.name_literal.new.plan c.name_literal.new.plan c.in_err-name_literal.ensures)

pub name_literals-loop-literal-preserved : goal.name_literals-loop-literal-preserved
name_literals-loop-literal-preserved g t c =
    λ s h. names_more c.args.association c.args.array (g.M.Memory.view c.args.m.now).objects c.args.literals.now c.loop-literal.plan c.loop-literal.literal-index s (c.loop-literal.invariant s h)
    c.literal-item.result c.loop-literal-test.true c.literal-item.is c.name_literal.new.plan c.in_ok-name_literal.ensures

pub name_literals-returns : goal.name_literals-returns
name_literals-returns g t c =
    λ s h. names_end c.args.association c.args.array (g.M.Memory.view c.args.m.now).objects c.args.literals.now c.loop-literal.plan c.loop-literal.literal-index s (c.loop-literal.invariant s h) c.loop-literal-test.false
