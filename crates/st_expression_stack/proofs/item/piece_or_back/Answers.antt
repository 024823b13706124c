use Rattle.std.proofs.Common.{rules}
use Rattle.st_expression_stack.proofs.Stacking.{piece_on_top, none_on_top}
use Rattle.st_expression_stack.proofs.item.piece_or_back.Goals as goal

pub returns-in-Piece : goal.returns-in-Piece
returns-in-Piece c = piece_on_top c.args.items.now.items c.args.item c.in-Piece.piece c.in-Piece.is

pub returns-in_ok-push-in_default : goal.returns-in_ok-push-in_default
returns-in_ok-push-in_default c = (none_on_top c.args.items.now.items c.args.item c.in_default.not-Piece, search rules)
