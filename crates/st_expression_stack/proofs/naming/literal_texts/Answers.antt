use Rattle.std.proofs.Common.{◌≡◌, map, arith, ◌∙◌}
use Rattle.std.proofs.lemmas.Grind.{common_steps}
use Rattle.st_emit.specs.inside.NameViews.{names_view}
use Rattle.st_emit.specs.inside.Views.{literal_view}
use Rattle.st_expression_stack.specs.Names.{literal_text}
use Rattle.st_expression_stack.proofs.NameTurns.{texts_map, literals_again}
use Rattle.st_expression_stack.proofs.naming.literal_texts.Goals as goal

pub returns : goal.returns
returns c =
    let each : map (λ t. t.items) c.loop-literal.called.items ≡ map (λ x. literal_text (names_view c.args.names.now) (literal_view x)) c.args.literals.now = grind (arith, common_steps) in
    texts_map c.loop-literal.called.items ∙ each ∙ literals_again (literal_text (names_view c.args.names.now)) c.args.literals.now
