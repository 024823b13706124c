use Rattle.std.proofs.Common.{sym, ap, ap₂, ◌∙◌}
use Rattle.std.proofs.lemmas.Result.{IfOk-weaker}
use Rattle.st_expression_stack.specs.Items.{Piece, put_low}
use Rattle.st_decompile.specs.Reading.{choice_piece}
use Rattle.st_expression_stack.specs.inside.Stacks.{piece_view, stack_view}
use Rattle.st_decompile.specs.inside.Read.{chosen_by}
use Rattle.st_decompile.proofs.ReadTurns.{popped_none, popped_some}
use Rattle.st_decompile.proofs.region.chosen.Goals as goal

pub returns-in_default : goal.returns-in_default
returns-in_default c = popped_none c.args.items.now.items c.pop_piece.new.items.items _ _ c.in_default.is c.in_ok-condition.ensures

pub returns : goal.returns
returns c =
    let below = c.pop_piece.new.items.items in
    let top = popped_some c.args.items.now.items below _ c.in-Some.condition c.in-Some.is c.in_ok-condition.ensures in
    let same = c.in_ok-piece.ensures ∙ ap₂ (choice_piece c.args.on (piece_view c.in-Some.condition)) c.in_ok-passed.ensures c.in_ok-other.ensures in
    IfOk-weaker c.put_low.result _ _
    (λ ok is. is ∙ ap (λ (p : Piece). put_low p (stack_view below)) same ∙ sym (ap (chosen_by c.args.on (stack_view c.args.first.items) (stack_view c.args.second.items)) top))
    c.put_low.ensures
