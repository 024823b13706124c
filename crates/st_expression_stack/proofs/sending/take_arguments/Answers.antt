use Rattle.std.proofs.Common.{◌≡◌, ◌+◌, ◌-◌, List, Some, None, sym, ap, ◌∙◌, subst, arith}
use Rattle.std.specs.Prelude.{reverse}
use Rattle.st_scan.specs.declared.tree.Expression.{Expression}
use Rattle.st_scan.specs.Views.{expression, expression_view, expressions_view}
use Rattle.st_expression_stack.specs.inside.Stacks.{piece_view, IsPopped}
use Rattle.st_expression_stack.proofs.Stacking.{arguments_turn, arguments_none, argument_put}
use Rattle.st_expression_stack.proofs.sending.take_arguments.Goals as goal

pub returns-in_default : goal.returns-in_default
returns-in_default c = λ f.
    let l = c.loop-i in
    let top : IsPopped l.items.items c.pop_piece.new.items.items None = subst (IsPopped l.items.items c.pop_piece.new.items.items) c.in_default.is c.in_ok-piece.ensures in
    sym (l.invariant f) ∙ arguments_none (c.args.count - l.i) (c.args.count - (l.i + 1)) _ _ _ _ f (omega (arith, c.loop-i-test.true)) top.0

pub loop-i-preserved : goal.loop-i-preserved
loop-i-preserved c = λ f.
    let l = c.loop-i in
    let piece = c.in-Some.piece in
    let top : IsPopped l.items.items c.pop_piece.new.items.items (Some piece) = subst (IsPopped l.items.items c.pop_piece.new.items.items) c.in-Some.is c.in_ok-piece.ensures in
    let put : expressions_view (reverse c.push.new.self.items) ≡ expression (expression_view piece.tree) (expressions_view (reverse l.arguments.list.items)) =
    ap (λ (es : List Expression). expressions_view (reverse es)) c.in_ok-push.ensures.items ∙ argument_put l.arguments.list.items piece.tree in
    arguments_turn (c.args.count - l.i) (c.args.count - (l.i + 1)) _ _ _ _ _ _ (piece_view piece) _ _ f (omega (arith, c.loop-i-test.true)) top.0 put (omega arith) (omega (arith, c.in_ok-height.ensures)) ∙ l.invariant f
