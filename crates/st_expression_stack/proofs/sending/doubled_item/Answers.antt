use Rattle.std.proofs.Common.{[], ◌∷◌, ◌++◌, ap, ◌∙◌}
use Rattle.st_expression_stack.specs.declared.item.Item.TheVariants as kept
use Rattle.st_expression_stack.proofs.SentItems.{doubled_piece, doubled_cascade, doubled_none}
use Rattle.st_expression_stack.proofs.sending.doubled_item.Goals as goal

pub returns-in_ok-push-in-Piece-2 : goal.returns-in_ok-push-in-Piece-2
returns-in_ok-push-in-Piece-2 c =
    doubled_piece c.args.items.now.items c.push-in-Piece.new.self.items c.args.top c.in-Piece.receiver c.new.result c.in-Piece.is c.new.ensures.items
    (c.in_ok-push-in-Piece-2.ensures.items ∙ ap (λ xs. xs ++ kept.Again ∷ []) c.in_ok-push-in-Piece.ensures.items)

pub returns-in_ok-push-in-Cascade-2 : goal.returns-in_ok-push-in-Cascade-2
returns-in_ok-push-in-Cascade-2 c =
    doubled_cascade c.args.items.now.items _ c.args.top c.in-Cascade.receiver c.in-Cascade.messages c.in-Cascade.is
    (c.in_ok-push-in-Cascade-2.ensures.items ∙ ap (λ xs. xs ++ kept.Again ∷ []) c.in_ok-push-in-Cascade.ensures.items)

pub returns-in_default : goal.returns-in_default
returns-in_default c = doubled_none c.args.items.now.items c.args.top c.in_default.not-Piece c.in_default.not-Cascade
