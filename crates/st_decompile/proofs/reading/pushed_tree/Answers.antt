use Rattle.std.proofs.Common.{◌≡◌, sym, ap, ◌∙◌, subst}
use Rattle.std.specs.Prelude.{IfOk, option_map}
use Rattle.st_scan.specs.Views.{expression_view}
use Rattle.st_emit.specs.inside.Views.{literal_view}
use Rattle.st_expression_stack.specs.Choosing.{literal_tree}
use Rattle.st_decompile.specs.inside.Read.{pushed_by}
use Rattle.st_expression_stack.proofs.Got.{got_as}
use Rattle.st_decompile.proofs.reading.pushed_tree.Goals as goal

pub returns-in-Literal : goal.returns-in-Literal
returns-in-Literal c =
    let same =
    ap (option_map literal_tree) (sym (got_as c.args.reading.literals.now c.in-Literal.n literal_view c.get.result c.get.ensures.lookup))
    ∙ ap (pushed_by c.args.reading) (sym c.in-Literal.is) in
    subst (λ v. IfOk c.literal_as_tree.result (λ e. option_map expression_view e ≡ v)) same c.literal_as_tree.ensures
