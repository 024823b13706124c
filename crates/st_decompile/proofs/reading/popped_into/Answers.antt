use Rattle.std.proofs.Common.{List, ◌∷◌, sym, ap, ◌∙◌}
use Rattle.st_expression_stack.specs.Items.{Item, goes_on}
use Rattle.st_expression_stack.specs.inside.Stacks.{stack_view}
use Rattle.st_expression_stack.proofs.Stacking.{stack_push}
use Rattle.st_decompile.proofs.ReadTurns.{popped_is}
use Rattle.st_decompile.proofs.reading.popped_into.Goals as goal

pub returns : goal.returns
returns c =
    let below = c.pop_piece.new.items.items in
    ap goes_on (stack_push below c.push.new.self.items c.in_ok-item.item c.in_ok-push.ensures.items ∙ ap (λ (x : Item). x ∷ stack_view below) c.in_ok-item.ensures)
    ∙ sym (popped_is c.args.reading c.args.place c.args.items.now.items below c.in_ok-value.value c.in_ok-value.ensures)
