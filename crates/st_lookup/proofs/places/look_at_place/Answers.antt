use Rattle.std.proofs.Common.{◌≡◌, ◌∙◌, sym, rules, Err}
use Rattle.st_model.specs.Values.{word}
use Rattle.st_lookup.proofs.Searching.{look_died, look_found, look_found_died, look_nil, look_on}
use Rattle.st_lookup.proofs.places.look_at_place.Goals as goal

pub returns-in_err-place : goal.returns-in_err-place
returns-in_err-place g c =
    let e : c.from_residual.result ≡ Err c.in_err-place.field-0.0 = search rules in
    rw e (look_died g.met.O.Reading.tabular (word c.args.dictionary) (word c.args.selector) c.args.k (g.O.Reading.table c.args.m.now) c.in_err-place.field-0.0 c.in_err-place.ensures)

pub returns-in_err-method_at : goal.returns-in_err-method_at
returns-in_err-method_at g c =
    let e : c.from_residual-in_err-method_at.result ≡ Err c.in_err-method_at.field-0.0 = search rules in
    rw e (look_found_died g.met.O.Reading.tabular (word c.args.dictionary) (word c.args.selector) c.args.k (g.O.Reading.table c.args.m.now) c.in_ok-place.place c.in_err-method_at.field-0.0 c.in_ok-place.ensures (sym c.same.ensures ∙ c.if-same.true) c.in_err-method_at.ensures)

pub returns-then-same : goal.returns-then-same
returns-then-same g c =
    look_found g.met.O.Reading.tabular (word c.args.dictionary) (word c.args.selector) c.args.k (g.O.Reading.table c.args.m.now) c.in_ok-place.place c.in_ok-method_at.field-0 c.in_ok-place.ensures (sym c.same.ensures ∙ c.if-same.true) c.in_ok-method_at.ensures

pub returns-then-same-2 : goal.returns-then-same-2
returns-then-same-2 g c =
    let e = sym c.same-2.ensures ∙ c.if-same-2.true in
    look_nil g.met.O.Reading.tabular (word c.args.dictionary) (word c.args.selector) c.args.k (g.O.Reading.table c.args.m.now) c.in_ok-place.place c.in_ok-place.ensures (sym c.same.ensures ∙ c.if-same.false) (rw c.word.ensures at e)

pub returns : goal.returns
returns g c =
    let e = sym c.same-2.ensures ∙ c.if-same-2.false in
    look_on g.met.O.Reading.tabular (word c.args.dictionary) (word c.args.selector) c.args.k (g.O.Reading.table c.args.m.now) c.in_ok-place.place c.in_ok-place.ensures (sym c.same.ensures ∙ c.if-same.false) (rw c.word.ensures at e)
