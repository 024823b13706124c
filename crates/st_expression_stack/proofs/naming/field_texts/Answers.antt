use Rattle.std.proofs.Common.{◌≡◌, map, arith, ◌∙◌}
use Rattle.std.proofs.lemmas.Grind.{common_steps}
use Rattle.st_expression_stack.specs.Names.{usable_or}
use Rattle.st_expression_stack.proofs.NameTurns.{texts_map, texts_again}
use Rattle.st_expression_stack.proofs.naming.field_texts.Goals as goal

pub returns : goal.returns
returns c =
    let each : map (λ t. t.items) c.loop-field.texts.items ≡ map (λ t. usable_or t.items) c.args.fields.now = grind (arith, common_steps) in
    texts_map c.loop-field.texts.items ∙ each ∙ texts_again usable_or c.args.fields.now
