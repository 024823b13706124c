use Rattle.std.proofs.Common.{ap, ◌∙◌}
use Rattle.st_kernel_text.specs.Known.{Names, named}
use Rattle.st_kernel_text.proofs.Listed.{lookup_names}
use Rattle.st_kernel_text.proofs.declarations.Declarations.named.Goals as goal

pub returns : goal.returns
returns c =
    c.copied.ensures
    ∙ c.get.ensures.value
    ∙ lookup_names c.args.name.now c.self.inside.names.entries
    ∙ ap (λ (names : Names). named names c.args.name.now) c.self.view_is
