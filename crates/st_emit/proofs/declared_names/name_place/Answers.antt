use Rattle.std.proofs.Common.{◌∙◌}
use Rattle.st_emit.proofs.NamePlaces.{noted_text}
use Rattle.st_emit.proofs.declared_names.name_place.Goals as goal

pub returns : goal.returns
returns c = c.copied.ensures ∙ c.get.ensures.value ∙ noted_text c.args.frame.places.now.entries c.args.text.now ∙ c.args.frame.indexed c.args.text.now
