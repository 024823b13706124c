use Rattle.std.proofs.Common.{◌≡◌, Option, Ok, Err, subst, rules}
use Rattle.st_model.specs.declared.oop.Oop.{Oop}
use Rattle.st_model.specs.Values.{value}
use Rattle.st_model.specs.Table.{table}
use Rattle.st_model.specs.inside.Calls.{Reads}
use Rattle.st_scope.specs.declared.unread.Unread.TheVariants.{Dies}
use Rattle.st_install.specs.Symbols.{symbol_named}
use Rattle.st_scope.specs.Texts.{found}
use Rattle.st_install.proofs.SymbolsOf.{seek_dies, name_found, name_made}
use Rattle.st_install.proofs.symbol_plan.seek_symbol.Goals as goal

pub returns-in_err-symbol : goal.returns-in_err-symbol
returns-in_err-symbol g c =
    let e : c.from_residual.result ≡ Err (Dies c.in_err-symbol.field-0.0) = search rules in
    rw e (λ s h. seek_dies c.args.association c.args.array c.args.text.now (g.M.Memory.view c.args.m.now).objects c.args.plan.now c.requires s h c.in_err-symbol.field-0.0 c.in_err-symbol.ensures)

pub returns-in_ok-note-in-Some : goal.returns-in_ok-note-in-Some
returns-in_ok-note-in-Some g c =
    let t = (g.M.Memory.view c.args.m.now).objects in
    let r = subst (λ (x : Option Oop). Reads (symbol_named table (value c.args.array) c.args.text.now) found t (Ok x)) c.in-Some.is c.in_ok-symbol.ensures in
    λ s h. name_found c.args.association c.args.array c.args.text.now t c.args.plan.now c.requires s h c.note.new.plan c.in-Some.symbol r c.in_ok-note-in-Some.ensures

pub returns-in_ok-make_symbol-in-None : goal.returns-in_ok-make_symbol-in-None
returns-in_ok-make_symbol-in-None g c =
    let t = (g.M.Memory.view c.args.m.now).objects in
    let r = subst (λ (x : Option Oop). Reads (symbol_named table (value c.args.array) c.args.text.now) found t (Ok x)) c.in-None.is c.in_ok-symbol.ensures in
    λ s h. name_made c.args.association c.args.array c.args.text.now t c.args.plan.now c.requires s h c.make_symbol.new.plan r c.in_ok-make_symbol-in-None.ensures
