use Rattle.std.proofs.Common.{◌≡◌, ◌-◌, rules, Option, Ok, Err, subst}
use Rattle.st_model.specs.Values.{value}
use Rattle.st_install.specs.declared.places.DictionaryPlace.{DictionaryPlace}
use Rattle.st_install.specs.inside.Endings.{SeeksFrom}
use Rattle.st_install.proofs.Seeking.{ends_first, dies_first, ends_second}
use Rattle.st_install.proofs.places.seek_from.Goals as goal

pub returns-in_err-place-clause-ends : goal.returns-in_err-place-clause-ends
returns-in_err-place-clause-ends g c =
    let e : c.from_residual.result ≡ Err c.in_err-place.field-0.0 = search rules in
    rw e (dies_first c.args.dictionary c.args.sought c.args.places c.args.start (g.M.Memory.view c.args.m.now).objects c.in_err-place.field-0.0 c.in_err-place.ensures.ends)

pub returns-in-Some-clause-ends : goal.returns-in-Some-clause-ends
returns-in-Some-clause-ends g c =
    let t = (g.M.Memory.view c.args.m.now).objects in
    ends_first c.args.dictionary c.args.sought c.args.places c.args.start t c.in-Some.place
    (subst (λ (x : Option DictionaryPlace). SeeksFrom (value c.args.dictionary) (value c.args.sought) c.args.start (c.args.places - c.args.start) t (Ok x)) c.in-Some.is c.in_ok-place.ensures.ends)

pub returns-clause-ends : goal.returns-clause-ends
returns-clause-ends g c =
    let t = (g.M.Memory.view c.args.m.now).objects in
    ends_second c.args.dictionary c.args.sought c.args.places c.args.start t c.look_at_places-2.result
    (subst (λ (x : Option DictionaryPlace). SeeksFrom (value c.args.dictionary) (value c.args.sought) c.args.start (c.args.places - c.args.start) t (Ok x)) c.in_default.is c.in_ok-place.ensures.ends)
    c.look_at_places-2.ensures.ends
