use Rattle.std.proofs.Common.{◌∙◌}
use Rattle.st_emit.proofs.LiteralPlaces.{noted_key}
use Rattle.st_emit.proofs.literal_table.noted.Goals as goal

pub returns : goal.returns
returns c = c.copied.ensures ∙ c.get.ensures.value ∙ noted_key c.args.places.now.entries c.args.key.now
