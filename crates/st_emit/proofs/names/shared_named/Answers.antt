use Rattle.std.proofs.Common.{ap, ◌∙◌}
use Rattle.std.specs.Prelude.{option_map}
use Rattle.st_emit.specs.inside.NameViews.{pointer_of}
use Rattle.st_emit.proofs.Sharing.{shared_found}
use Rattle.st_emit.proofs.names.shared_named.Goals as goal

pub returns : goal.returns
returns c = ap (option_map pointer_of) (c.copied.ensures ∙ c.get.ensures.value) ∙ shared_found c.args.names.now.shared.entries c.args.text.now
