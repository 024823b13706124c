use Rattle.std.proofs.Common.{◌≡◌, List, sym, subst}
use Rattle.std.specs.Prelude.{IfOk}
use Rattle.st_expression_stack.specs.declared.item.Item.TheVariants as kept
use Rattle.st_expression_stack.specs.Items.{Item}
use Rattle.st_expression_stack.specs.inside.Stacks.{acted_if}
use Rattle.st_expression_stack.specs.inside.Sent.{sent_by}
use Rattle.st_expression_stack.proofs.SentItems.{on_top, sent_on_piece, sent_on_cascade, sent_none}
use Rattle.st_expression_stack.proofs.sending.sent_to_item.Goals as goal

pub returns-in_ok-push-in-Piece : goal.returns-in_ok-push-in-Piece
returns-in_ok-push-in-Piece c =
    sent_on_piece c.args.lookup c.args.message c.args.items.now.items _ c.args.top _ c.in-Piece.receiver c.new.result c.in-Piece.is c.new.ensures.items
    c.in_ok-finished-in-Piece.ensures c.in_ok-push-in-Piece.ensures.items

pub returns-in_ok-push-in-Cascade : goal.returns-in_ok-push-in-Cascade
returns-in_ok-push-in-Cascade c =
    sent_on_cascade c.args.lookup c.args.message c.args.items.now.items _ c.args.top _ c.in-Cascade.receiver c.in-Cascade.earlier c.in-Cascade.is
    c.in_ok-finished-in-Cascade.ensures c.in_ok-push-in-Cascade.ensures.items

pub returns-in-Again : goal.returns-in-Again
returns-in-Again c =
    subst (λ (xs : List Item). IfOk c.cascaded_below.result (λ ok. acted_if ok c.cascaded_below.new.items.items ≡ sent_by c.args.lookup c.args.message xs))
    (sym (on_top c.args.items.now.items c.args.top kept.Again c.in-Again.is)) c.cascaded_below.ensures

pub returns-in_default : goal.returns-in_default
returns-in_default c = sent_none c.args.lookup c.args.message c.args.items.now.items c.args.top c.in_default.not-Piece c.in_default.not-Cascade c.in_default.not-Again
