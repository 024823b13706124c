use Rattle.std.proofs.Common.{Some, None, subst}
use Rattle.st_expression_stack.specs.inside.Stacks.{piece_view, stack_view, IsPopped}
use Rattle.st_expression_stack.proofs.Stacking.{on_piece_none, on_piece_some}
use Rattle.st_decompile.proofs.reading.piece_start.Goals as goal

pub returns-in-Some : goal.returns-in-Some
returns-in-Some c = λ f.
    let old = c.args.items.now.items in
    let new = c.pop_piece.new.items.items in
    let top : IsPopped old new (Some c.in-Some.piece) = subst (IsPopped old new) c.in-Some.is c.in_ok-piece.ensures in
    on_piece_some (stack_view old) (stack_view new) (piece_view c.in-Some.piece) (λ x rest. f x.start rest) top.0

pub returns-in-None : goal.returns-in-None
returns-in-None c = λ f.
    let old = c.args.items.now.items in
    let new = c.pop_piece.new.items.items in
    let top : IsPopped old new None = subst (IsPopped old new) c.in-None.is c.in_ok-piece.ensures in
    on_piece_none (stack_view old) f top.0
