use Rattle.std.proofs.Common.{◌∙◌, ap, Option, Some, sym, subst}
use Rattle.st_model.specs.Values.{Value, value}
use Rattle.st_model.specs.Table.{table}
use Rattle.st_model.specs.Steps.{store_field}
use Rattle.st_install.specs.declared.places.DictionaryPlace.{DictionaryPlace}
use Rattle.st_install.specs.inside.Carried.{Goes, Becomes}
use Rattle.st_install.specs.Installing.{add_at}
use Rattle.st_install.specs.inside.Endings.{ending_of}
use Rattle.st_install.specs.inside.Placings.{placing_of}
use Rattle.st_install.proofs.Stores.{add_somewhere, adds_method, adds_tally, added}
use Rattle.st_install.proofs.storing.add_at.Goals as goal

pub unwrap-place-requires : goal.unwrap-place-requires
unwrap-place-requires g c = add_somewhere (placing_of c.args.placing) (value c.args.selector) (value c.args.method) (g.M.Memory.view c.args.m.now) c.args.placing.place c.requires.goes

pub store_field-requires : goal.store_field-requires
unfolding add_at
store_field-requires g c =
    let step = λ (p : Option DictionaryPlace). add_at table (placing_of c.args.placing) (value c.args.selector) (value c.args.method) (ending_of p) in
    subst (λ (p : Option DictionaryPlace). Goes (step p) (g.M.Memory.view c.args.m.now)) (c.unwrap-place.ensures ∙ ap (λ (p : DictionaryPlace). Some p) c.in-Holds.is) c.requires.goes

pub put_method-requires-clause-goes : goal.put_method-requires-clause-goes
put_method-requires-clause-goes g c =
    let step = λ (p : Option DictionaryPlace). add_at table (placing_of c.args.placing) (value c.args.selector) (value c.args.method) (ending_of p) in
    let v = g.M.Memory.view c.args.m.now in
    adds_method (placing_of c.args.placing) (value c.args.selector) (value c.args.method) v c.in-Vacant.k
    (subst (λ (p : Option DictionaryPlace). Goes (step p) v) (c.unwrap-place.ensures ∙ ap (λ (p : DictionaryPlace). Some p) c.in-Vacant.is) c.requires.goes)

pub store_field-requires-in-Vacant : goal.store_field-requires-in-Vacant
store_field-requires-in-Vacant g c =
    let step = λ (p : Option DictionaryPlace). add_at table (placing_of c.args.placing) (value c.args.selector) (value c.args.method) (ending_of p) in
    let v = g.M.Memory.view c.args.m.now in
    let w = g.M.Memory.view c.put_method.new.m in
    subst (λ (y : Value). Goes (store_field table (value c.args.placing.dictionary) 0 y) w) (sym c.raised_tally.ensures)
    (adds_tally (placing_of c.args.placing) (value c.args.selector) (value c.args.method) v c.in-Vacant.k
    (subst (λ (p : Option DictionaryPlace). Goes (step p) v) (c.unwrap-place.ensures ∙ ap (λ (p : DictionaryPlace). Some p) c.in-Vacant.is) c.requires.goes) w c.put_method.ensures)

pub returns-in-Holds : goal.returns-in-Holds
unfolding add_at
returns-in-Holds g c =
    let step = λ (p : Option DictionaryPlace). add_at table (placing_of c.args.placing) (value c.args.selector) (value c.args.method) (ending_of p) in
    subst (λ (p : Option DictionaryPlace). Becomes (step p) (g.M.Memory.view c.args.m.now) tt (g.M.Memory.view c.store_field.new.m)) (sym (c.unwrap-place.ensures ∙ ap (λ (p : DictionaryPlace). Some p) c.in-Holds.is)) c.store_field.ensures.becomes

pub returns-in-Vacant : goal.returns-in-Vacant
returns-in-Vacant g c =
    let step = λ (p : Option DictionaryPlace). add_at table (placing_of c.args.placing) (value c.args.selector) (value c.args.method) (ending_of p) in
    let v = g.M.Memory.view c.args.m.now in
    let w = g.M.Memory.view c.put_method.new.m in
    let u = g.M.Memory.view c.store_field-in-Vacant.new.m in
    subst (λ (p : Option DictionaryPlace). Becomes (step p) v tt u) (sym (c.unwrap-place.ensures ∙ ap (λ (p : DictionaryPlace). Some p) c.in-Vacant.is))
    (added (placing_of c.args.placing) (value c.args.selector) (value c.args.method) v c.in-Vacant.k w u c.put_method.ensures
    (subst (λ (y : Value). Becomes (store_field table (value c.args.placing.dictionary) 0 y) w tt u) c.raised_tally.ensures c.store_field-in-Vacant.ensures.becomes))
