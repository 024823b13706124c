use Rattle.std.proofs.Common.{◌≡◌, ◌≤◌, rules, Option, Ok, Err, arith, subst}
use Rattle.st_model.specs.Values.{value}
use Rattle.st_install.specs.declared.places.DictionaryPlace.{DictionaryPlace}
use Rattle.st_install.specs.inside.Endings.{SeeksAt}
use Rattle.st_install.proofs.Seeking.{all_left, ends_left, dies_left, goes_on_left, no_left}
use Rattle.st_install.proofs.places.look_at_places.Goals as goal

pub loop-k-init : goal.loop-k-init
loop-k-init g c = all_left (value c.args.dictionary) (value c.args.sought) c.args.from c.args.to (g.M.Memory.view c.args.m.now).objects

pub returns-in_err-place-clause-ends : goal.returns-in_err-place-clause-ends
returns-in_err-place-clause-ends g c =
    let e : c.from_residual.result ≡ Err c.in_err-place.field-0.0 = search rules in
    rw e (dies_left (value c.args.dictionary) (value c.args.sought) c.args.from c.args.to (g.M.Memory.view c.args.m.now).objects c.loop-k.k c.loop-k-test.true c.loop-k.invariant c.in_err-place.field-0.0 c.in_err-place.ensures.ends)

pub returns-in-Some-clause-ends : goal.returns-in-Some-clause-ends
returns-in-Some-clause-ends g c =
    let t = (g.M.Memory.view c.args.m.now).objects in
    ends_left (value c.args.dictionary) (value c.args.sought) c.args.from c.args.to t c.loop-k.k c.loop-k-test.true c.loop-k.invariant c.in-Some.place
    (subst (λ (x : Option DictionaryPlace). SeeksAt (value c.args.dictionary) (value c.args.sought) c.loop-k.k t (Ok x)) c.in-Some.is c.in_ok-place.ensures.ends)

pub loop-k-preserved : goal.loop-k-preserved
loop-k-preserved g c =
    let t = (g.M.Memory.view c.args.m.now).objects in
    goes_on_left (value c.args.dictionary) (value c.args.sought) c.args.from c.args.to t c.loop-k.k c.loop-k-test.true c.loop-k.invariant
    (subst (λ (x : Option DictionaryPlace). SeeksAt (value c.args.dictionary) (value c.args.sought) c.loop-k.k t (Ok x)) c.in_default.is c.in_ok-place.ensures.ends)

pub returns-clause-ends : goal.returns-clause-ends
returns-clause-ends g c =
    let l = c.loop-k-test.false in
    let last : c.args.to ≤ c.loop-k.k = omega (arith, l) in
    no_left (value c.args.dictionary) (value c.args.sought) c.args.from c.args.to (g.M.Memory.view c.args.m.now).objects c.loop-k.k last c.loop-k.invariant
