use Rattle.std.proofs.Common.{sym, ap, ◌∙◌}
use Rattle.std.specs.Prelude.{option_map}
use Rattle.st_scan.specs.Views.{statements_view}
use Rattle.st_scan.proofs.Views.{statements_view-push}
use Rattle.st_scope.specs.inside.Findings.{text_of}
use Rattle.st_parts.specs.Keys.{with_mentioned}
use Rattle.st_parts.proofs.naming.mention.Goals as goal

pub returns-in_ok-push-in-Some : goal.returns-in_ok-push-in-Some
returns-in_ok-push-in-Some c =
    let old = c.args.statements.now.items in
    ap statements_view c.in_ok-push-in-Some.ensures.items ∙ (statements_view-push old _ ∙ ap (λ k. with_mentioned (statements_view old) (option_map text_of k)) (sym c.in-Some.is))
