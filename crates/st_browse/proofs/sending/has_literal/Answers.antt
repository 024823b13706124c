use Rattle.std.proofs.Common.{drop, ap, sym, ◌∙◌, arith}
use Rattle.std.specs.List.{list_any}
use Rattle.st_model.specs.Values.{value}
use Rattle.st_model.specs.View.{object_of}
use Rattle.st_browse.specs.Senders.{is_symbol}
use Rattle.st_browse.proofs.Parting.{dropped_all}
use Rattle.st_browse.proofs.Symbols.{any_here, any_next}
use Rattle.st_browse.proofs.sending.has_literal.Goals as goal

pub returns-then-is_symbol : goal.returns-then-is_symbol
returns-then-is_symbol g c =
    let t = (g.M.Memory.view c.args.m.now).objects in
    let fields = (object_of t (value c.args.body.method)).fields in
    any_here (is_symbol t c.args.text.now) fields c.loop-i.i (value c.pointer.result) c.pointer.ensures.field (list_any (is_symbol t c.args.text.now) (drop 1 fields))
    c.loop-i.invariant (sym c.is_symbol.ensures ∙ c.if-is_symbol.true)

pub loop-i-preserved : goal.loop-i-preserved
loop-i-preserved g c =
    let t = (g.M.Memory.view c.args.m.now).objects in
    let fields = (object_of t (value c.args.body.method)).fields in
    any_next (is_symbol t c.args.text.now) fields c.loop-i.i (value c.pointer.result) c.pointer.ensures.field (list_any (is_symbol t c.args.text.now) (drop 1 fields))
    c.loop-i.invariant (sym c.is_symbol.ensures ∙ c.if-is_symbol.false)

pub returns : goal.returns
returns g c =
    let t = (g.M.Memory.view c.args.m.now).objects in
    let fields = (object_of t (value c.args.body.method)).fields in
    let f = c.requires.fields in
    let l = c.loop-i-test.false in
    sym (ap (list_any (is_symbol t c.args.text.now)) (dropped_all fields c.loop-i.i (omega (arith, f, l)))) ∙ c.loop-i.invariant
