use Rattle.std.proofs.Common.{◌≡◌, ◌-◌, length, sym, ap, ◌∙◌, arith}
use Rattle.std.proofs.lemmas.List.{length-map}
use Rattle.std.specs.Prelude.{slice_get}
use Rattle.st_emit.specs.inside.Views.{literal_view, literals_view}
use Rattle.st_decompile.specs.Whole.{size_in}
use Rattle.st_expression_stack.proofs.Got.{got_as}
use Rattle.st_decompile.proofs.whole.extension_in.Goals as goal

pub returns : goal.returns
returns c =
    let ls = c.args.literals.now in
    let place : c.saturating_sub.result ≡ length (literals_view ls) - 2 = omega (arith, length-map ls literal_view) in
    c.size_in.ensures
    ∙ ap size_in (sym (got_as ls c.saturating_sub.result literal_view c.get.result c.get.ensures.lookup) ∙ ap (slice_get (literals_view ls)) place)
