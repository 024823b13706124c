use Rattle.std.proofs.Common.{sym, ap, ◌∙◌}
use Rattle.std.specs.Prelude.{option_map}
use Rattle.st_emit.specs.inside.Views.{literal_view, literals_view}
use Rattle.st_emit.specs.inside.LiteralPlaces.{key_view}
use Rattle.st_emit.proofs.LiteralPlaces.{no_literal_place}
use Rattle.st_emit.proofs.literal_table.LiteralTable.place_of.Goals as goal

pub returns-in_default : goal.returns-in_default
returns-in_default c = no_literal_place (literals_view c.args.self.now.items) (literal_view c.args.literal.now) (sym c.in_ok-key.ensures ∙ ap (option_map key_view) c.in_default.is)
