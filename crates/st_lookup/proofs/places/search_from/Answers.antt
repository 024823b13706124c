use Rattle.std.proofs.Common.{◌≡◌, ◌-◌, rules, Ok, Err, arith, subst}
use Rattle.st_model.specs.Values.{word}
use Rattle.st_lookup.specs.declared.places.Search.{Search}
use Rattle.st_lookup.specs.inside.Places.{LooksFrom}
use Rattle.st_lookup.proofs.Searching.{ends_first, dies_first, ends_second, dies_second, ends_never}
use Rattle.st_lookup.proofs.places.search_from.Goals as goal

pub returns-in_err-method : goal.returns-in_err-method
returns-in_err-method g c =
    let e : c.from_residual.result ≡ Err c.in_err-method.field-0.0 = search rules in
    rw e (dies_first g.O.Reading.names (word c.args.dictionary) (word c.args.selector) c.args.places c.args.start (omega arith) (g.O.Reading.table c.args.m.now) c.in_err-method.field-0.0 c.in_err-method.ensures)

pub returns-in-Ends : goal.returns-in-Ends
returns-in-Ends g c = ends_first g.O.Reading.names (word c.args.dictionary) (word c.args.selector) c.args.places c.args.start (omega arith) (g.O.Reading.table c.args.m.now) c.in-Ends.method (subst (λ (x : Search). LooksFrom g.O.Reading.names (word c.args.dictionary) (word c.args.selector) c.args.start (c.args.places - c.args.start) (g.O.Reading.table c.args.m.now) (Ok x)) c.in-Ends.is c.in_ok-method.ensures)

pub returns-in_err-method-2 : goal.returns-in_err-method-2
returns-in_err-method-2 g c =
    let e : c.from_residual-in_err-method-2.result ≡ Err c.in_err-method-2.field-0.0 = search rules in
    rw e (dies_second g.O.Reading.names (word c.args.dictionary) (word c.args.selector) c.args.places c.args.start (omega arith) (g.O.Reading.table c.args.m.now) c.in_err-method-2.field-0.0 (subst (λ (x : Search). LooksFrom g.O.Reading.names (word c.args.dictionary) (word c.args.selector) c.args.start (c.args.places - c.args.start) (g.O.Reading.table c.args.m.now) (Ok x)) c.in-GoesOn.is c.in_ok-method.ensures) c.in_err-method-2.ensures)

pub returns-in-Ends-2 : goal.returns-in-Ends-2
returns-in-Ends-2 g c =
    ends_second g.O.Reading.names (word c.args.dictionary) (word c.args.selector) c.args.places c.args.start (omega arith) (g.O.Reading.table c.args.m.now) c.in-Ends-2.method (subst (λ (x : Search). LooksFrom g.O.Reading.names (word c.args.dictionary) (word c.args.selector) c.args.start (c.args.places - c.args.start) (g.O.Reading.table c.args.m.now) (Ok x)) c.in-GoesOn.is c.in_ok-method.ensures) (subst (λ (x : Search). LooksFrom g.O.Reading.names (word c.args.dictionary) (word c.args.selector) 0 (c.args.start - 0) (g.O.Reading.table c.args.m.now) (Ok x)) c.in-Ends-2.is c.in_ok-method-2.ensures)

pub returns-in-GoesOn-2 : goal.returns-in-GoesOn-2
returns-in-GoesOn-2 g c =
    ends_never g.O.Reading.names (word c.args.dictionary) (word c.args.selector) c.args.places c.args.start (omega arith) (g.O.Reading.table c.args.m.now) (subst (λ (x : Search). LooksFrom g.O.Reading.names (word c.args.dictionary) (word c.args.selector) c.args.start (c.args.places - c.args.start) (g.O.Reading.table c.args.m.now) (Ok x)) c.in-GoesOn.is c.in_ok-method.ensures) (subst (λ (x : Search). LooksFrom g.O.Reading.names (word c.args.dictionary) (word c.args.selector) 0 (c.args.start - 0) (g.O.Reading.table c.args.m.now) (Ok x)) c.in-GoesOn-2.is c.in_ok-method-2.ensures)
