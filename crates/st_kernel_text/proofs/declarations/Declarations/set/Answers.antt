use Rattle.std.proofs.Common.{List, ℕ, ap, ◌∙◌}
use Rattle.st_kernel_text.specs.Known.{Names, with_named}
use Rattle.st_kernel_text.specs.inside.Lists.{names_of}
use Rattle.st_kernel_text.proofs.Listed.{name_set}
use Rattle.st_kernel_text.proofs.declarations.Declarations.set.Goals as goal

pub returns : goal.returns
returns c =
    let entries = c.self.inside.names.entries in
    let text = c.in_ok-to_vec.ensures.items_if_clones_equal (λ x y h. h) in
    ap names_of c.in_ok-insert.ensures.entries
    ∙ name_set c.in_ok-to_vec.field-0 c.args.of entries
    ∙ ap (λ (name : List ℕ). with_named (names_of entries) name c.args.of) text
    ∙ ap (λ (names : Names). with_named names c.args.name.now c.args.of) c.self.view_is
