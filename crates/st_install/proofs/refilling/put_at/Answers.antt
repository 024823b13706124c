use Rattle.std.proofs.Common.{Some, sym, subst}
use Rattle.st_model.specs.Values.{value}
use Rattle.st_model.specs.Table.{table}
use Rattle.st_install.specs.declared.places.DictionaryPlace.{DictionaryPlace}
use Rattle.st_install.specs.inside.Carried.{Goes, Becomes}
use Rattle.st_install.specs.Dictionaries.{put_at}
use Rattle.st_install.specs.inside.Endings.{ending_of}
use Rattle.st_install.proofs.Refills.{put_vacant, methods_there, held_goes, held_put}
use Rattle.st_install.proofs.refilling.put_at.Goals as goal

pub field-methods-requires : goal.field-methods-requires
field-methods-requires g c =
    let v = g.M.Memory.view c.args.m.now in
    let goes = subst (λ (p : DictionaryPlace). Goes (put_at table (value c.args.dictionary) (value c.args.selector) (value c.args.method) (ending_of (Some p))) v) c.in-Holds.is c.requires.goes in
    methods_there (value c.args.dictionary) (value c.args.selector) (value c.args.method) v c.in-Holds.k goes

pub put_method-requires-clause-goes : goal.put_method-requires-clause-goes
put_method-requires-clause-goes g c =
    let v = g.M.Memory.view c.args.m.now in
    let goes = subst (λ (p : DictionaryPlace). Goes (put_at table (value c.args.dictionary) (value c.args.selector) (value c.args.method) (ending_of (Some p))) v) c.in-Holds.is c.requires.goes in
    held_goes (value c.args.dictionary) (value c.args.selector) (value c.args.method) v c.in-Holds.k goes c.field-methods.result c.field-methods.ensures

pub unreachable-requires : goal.unreachable-requires
unreachable-requires g c =
    let v = g.M.Memory.view c.args.m.now in
    put_vacant (value c.args.dictionary) (value c.args.selector) (value c.args.method) v _
    (subst (λ (p : DictionaryPlace). Goes (put_at table (value c.args.dictionary) (value c.args.selector) (value c.args.method) (ending_of (Some p))) v) c.in-Vacant.is c.requires.goes)

pub returns : goal.returns
returns g c =
    let v = g.M.Memory.view c.args.m.now in
    let w = g.M.Memory.view c.put_method.new.m in
    let goes = subst (λ (p : DictionaryPlace). Goes (put_at table (value c.args.dictionary) (value c.args.selector) (value c.args.method) (ending_of (Some p))) v) c.in-Holds.is c.requires.goes in
    subst (λ (p : DictionaryPlace). Becomes (put_at table (value c.args.dictionary) (value c.args.selector) (value c.args.method) (ending_of (Some p))) v tt w) (sym c.in-Holds.is)
    (held_put (value c.args.dictionary) (value c.args.selector) (value c.args.method) v c.in-Holds.k goes c.field-methods.result c.field-methods.ensures w c.put_method.ensures)
