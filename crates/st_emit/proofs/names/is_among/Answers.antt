use Rattle.std.proofs.Common.{sym, ap, ◌∙◌}
use Rattle.st_emit.proofs.NamePlaces.{is_below, among_first}
use Rattle.st_emit.proofs.names.is_among.Goals as goal

pub returns-in-Some : goal.returns-in-Some
returns-in-Some c = ap (is_below c.args.text.now c.args.count) (sym c.in-Some.is ∙ c.name_place.ensures) ∙ sym (among_first c.args.text.now c.args.count c.args.frame.names.now)

pub returns-in-None : goal.returns-in-None
returns-in-None c = ap (is_below c.args.text.now c.args.count) (sym c.in-None.is ∙ c.name_place.ensures) ∙ sym (among_first c.args.text.now c.args.count c.args.frame.names.now)
