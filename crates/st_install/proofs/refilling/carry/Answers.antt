use Rattle.std.proofs.Common.{◌∙◌, ap, Option, Some, Result, Ok, subst}
use Rattle.st_model.specs.declared.dead.Dead.{Dead}
use Rattle.st_model.specs.Values.{value}
use Rattle.st_model.specs.Table.{table}
use Rattle.st_model.specs.inside.Calls.{Reads}
use Rattle.st_install.specs.declared.places.DictionaryPlace.{DictionaryPlace}
use Rattle.st_install.specs.Dictionaries.{seek}
use Rattle.st_install.specs.inside.Endings.{ending_of}
use Rattle.st_install.proofs.Refills.{array_there, method_there, place_found, put_somewhere, put_goes, carried}
use Rattle.st_install.proofs.refilling.carry.Goals as goal

pub field-methods-requires : goal.field-methods-requires
field-methods-requires g c = array_there (value c.args.old) (value c.args.new) c.args.k (value c.args.selector) (g.M.Memory.view c.args.m.now) c.requires

pub field-method-requires : goal.field-method-requires
field-method-requires g c =
    method_there (value c.args.old) (value c.args.new) c.args.k (value c.args.selector) (g.M.Memory.view c.args.m.now) c.requires c.field-methods.result c.field-methods.ensures

pub unwrap-requires : goal.unwrap-requires
unwrap-requires g c =
    place_found (value c.args.old) (value c.args.new) c.args.k (value c.args.selector) (g.M.Memory.view c.args.m.now) c.requires c.field-methods.result c.field-methods.ensures
    c.field-method.result c.field-method.ensures c.seek.result c.seek.ensures.ends

pub unwrap-place-requires : goal.unwrap-place-requires
unwrap-place-requires g c =
    let v = g.M.Memory.view c.args.m.now in
    let found = subst (λ (r : Result (Option DictionaryPlace) Dead). Reads (seek table (value c.args.new) (value (record { 0 = 2 })) (value c.args.selector)) ending_of v.objects r) c.unwrap.ensures c.seek.ensures.ends in
    put_somewhere (value c.args.new) (value c.args.selector) (value c.field-method.result) v c.unwrap.result
    (put_goes (value c.args.old) (value c.args.new) c.args.k (value c.args.selector) v c.requires c.field-methods.result c.field-methods.ensures c.field-method.result c.field-method.ensures c.unwrap.result found)

pub put_at-requires-clause-goes : goal.put_at-requires-clause-goes
put_at-requires-clause-goes g c =
    let v = g.M.Memory.view c.args.m.now in
    let found = subst (λ (r : Result (Option DictionaryPlace) Dead). Reads (seek table (value c.args.new) (value (record { 0 = 2 })) (value c.args.selector)) ending_of v.objects r) (c.unwrap.ensures ∙ ap (λ (p : Option DictionaryPlace). Ok p) c.unwrap-place.ensures) c.seek.ensures.ends in
    put_goes (value c.args.old) (value c.args.new) c.args.k (value c.args.selector) v c.requires c.field-methods.result c.field-methods.ensures c.field-method.result c.field-method.ensures (Some c.unwrap-place.result) found

pub returns : goal.returns
returns g c =
    let v = g.M.Memory.view c.args.m.now in
    let found = subst (λ (r : Result (Option DictionaryPlace) Dead). Reads (seek table (value c.args.new) (value (record { 0 = 2 })) (value c.args.selector)) ending_of v.objects r) (c.unwrap.ensures ∙ ap (λ (p : Option DictionaryPlace). Ok p) c.unwrap-place.ensures) c.seek.ensures.ends in
    carried (value c.args.old) (value c.args.new) c.args.k (value c.args.selector) v c.requires c.field-methods.result c.field-methods.ensures c.field-method.result c.field-method.ensures (Some c.unwrap-place.result) found
    (g.M.Memory.view c.put_at.new.m) c.put_at.ensures
