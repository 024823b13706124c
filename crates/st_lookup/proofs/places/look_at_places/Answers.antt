use Rattle.std.proofs.Common.{◌≡◌, rules, Ok, Err, arith, subst}
use Rattle.st_model.specs.Values.{word}
use Rattle.st_lookup.specs.declared.places.Search.{Search}
use Rattle.st_lookup.specs.inside.Places.{LooksAt}
use Rattle.st_lookup.proofs.Searching.{all_left, ends_left, dies_left, goes_on_left, no_left}
use Rattle.st_lookup.proofs.places.look_at_places.Goals as goal

pub loop-k-init : goal.loop-k-init
loop-k-init g c = all_left g.O.Reading.names (word c.args.dictionary) (word c.args.selector) c.args.from c.args.to (g.O.Reading.table c.args.m.now) c.requires.order

pub returns-in_err-method : goal.returns-in_err-method
returns-in_err-method g c =
    let e : c.from_residual.result ≡ Err c.in_err-method.field-0.0 = search rules in
    rw e (dies_left g.O.Reading.names (word c.args.dictionary) (word c.args.selector) c.args.from c.args.to (g.O.Reading.table c.args.m.now) c.loop-k.k c.in_err-method.field-0.0 (omega arith) c.loop-k.invariant c.in_err-method.ensures)

pub returns-in-Ends : goal.returns-in-Ends
returns-in-Ends g c =
    ends_left g.O.Reading.names (word c.args.dictionary) (word c.args.selector) c.args.from c.args.to (g.O.Reading.table c.args.m.now) c.loop-k.k c.in-Ends.method (omega arith) c.loop-k.invariant (subst (λ (x : Search). LooksAt g.O.Reading.names (word c.args.dictionary) (word c.args.selector) c.loop-k.k (g.O.Reading.table c.args.m.now) (Ok x)) c.in-Ends.is c.in_ok-method.ensures)

pub loop-k-preserved : goal.loop-k-preserved
loop-k-preserved g c =
    goes_on_left g.O.Reading.names (word c.args.dictionary) (word c.args.selector) c.args.from c.args.to (g.O.Reading.table c.args.m.now) c.loop-k.k (omega arith) c.loop-k.invariant (subst (λ (x : Search). LooksAt g.O.Reading.names (word c.args.dictionary) (word c.args.selector) c.loop-k.k (g.O.Reading.table c.args.m.now) (Ok x)) c.in-GoesOn.is c.in_ok-method.ensures)

pub returns : goal.returns
returns g c = no_left g.O.Reading.names (word c.args.dictionary) (word c.args.selector) c.args.from c.args.to (g.O.Reading.table c.args.m.now) c.loop-k.k (omega arith) c.loop-k.invariant
