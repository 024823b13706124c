use Rattle.std.proofs.Common.{◌≡◌, [], Some, None, sym, ap, ◌∙◌}
use Rattle.std.proofs.lemmas.Result.{IfOk-weaker}
use Rattle.st_expression_stack.specs.Items.{Piece, put_low}
use Rattle.st_decompile.specs.Reading.{loop_piece}
use Rattle.st_expression_stack.specs.inside.Stacks.{stack_view, taken_view, taken_if}
use Rattle.st_decompile.proofs.ReadTurns.{looped_on}
use Rattle.st_decompile.proofs.region.looped.Goals as goal

pub returns-in_default : goal.returns-in_default
returns-in_default c =
    let below = c.statements_from.new.items.items in
    looped_on c.args.on c.args.at (stack_view c.args.body.items) (stack_view c.args.items.now.items) None (ap (λ t. taken_if t below) (sym c.in_default.is) ∙ c.in_ok-condition.ensures)

pub returns : goal.returns
returns c =
    let condition = c.in-Some.condition in
    let below = c.statements_from.new.items.items in
    let same = c.in_ok-piece.ensures ∙ ap (loop_piece c.args.on c.args.at (taken_view condition [])) c.in_ok-inside.ensures in
    IfOk-weaker c.put_low.result _ _
    (λ ok is. is ∙ ap (λ (p : Piece). put_low p (stack_view below)) same
    ∙ looped_on c.args.on c.args.at (stack_view c.args.body.items) (stack_view c.args.items.now.items) (Some (taken_view condition below)) (ap (λ t. taken_if t below) (sym c.in-Some.is) ∙ c.in_ok-condition.ensures))
    c.put_low.ensures
