use Rattle.std.proofs.Common.{Option, Result, subst}
use Rattle.st_model.specs.declared.dead.Dead.{Dead}
use Rattle.st_model.specs.Values.{value}
use Rattle.st_model.specs.Table.{table}
use Rattle.st_model.specs.inside.Calls.{Reads}
use Rattle.st_install.specs.declared.places.DictionaryPlace.{DictionaryPlace}
use Rattle.st_install.specs.Dictionaries.{seek}
use Rattle.st_install.specs.inside.Endings.{ending_of}
use Rattle.st_install.proofs.Stores.{methods_go, tally_goes, place_goes, place_read}
use Rattle.st_install.proofs.storing.find_place.Goals as goal

pub field-methods-requires : goal.field-methods-requires
field-methods-requires g c = methods_go c.args.dictionary c.args.selector (g.M.Memory.view c.args.m.now) c.requires

pub field-tally-requires : goal.field-tally-requires
field-tally-requires g c = tally_goes c.args.dictionary c.args.selector (g.M.Memory.view c.args.m.now) c.requires c.field-methods.result c.field-methods.ensures

pub unwrap-place-requires : goal.unwrap-place-requires
unwrap-place-requires g c =
    place_goes c.args.dictionary c.args.selector (g.M.Memory.view c.args.m.now) c.requires c.field-methods.result c.field-methods.ensures c.field-tally.result c.field-tally.ensures c.seek.result c.seek.ensures.ends

pub returns-clause-finds : goal.returns-clause-finds
returns-clause-finds g c =
    let v = g.M.Memory.view c.args.m.now in
    place_read c.args.dictionary c.args.selector v c.requires c.field-methods.result c.field-methods.ensures c.field-tally.result c.field-tally.ensures c.unwrap-place.result
    (subst (λ (r : Result (Option DictionaryPlace) Dead). Reads (seek table (value c.args.dictionary) (value c.args.selector) (value c.args.selector)) ending_of v.objects r) c.unwrap-place.ensures c.seek.ensures.ends)
