use Rattle.std.proofs.Common.{ap, ◌∙◌}
use Rattle.std.specs.Prelude.{option_map}
use Rattle.st_install.specs.inside.Readies.{part_of}
use Rattle.st_install.proofs.Singles.{noted_text, symbol_noted}
use Rattle.st_install.proofs.single.named_symbol.Goals as goal

pub returns : goal.returns
returns c =
    let entries = c.args.named.now.entries in
    ap (option_map part_of) (c.copied.ensures ∙ c.get.ensures.value ∙ noted_text entries c.args.text.now) ∙ symbol_noted entries c.args.text.now
