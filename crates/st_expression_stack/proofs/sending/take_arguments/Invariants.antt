use Rattle.std.proofs.Common.{◌≡◌, ℕ, ◌-◌, List, Option, reverse}
use Rattle.st_scan.specs.Views.{ExpressionsView, expressions_view, no_expressions}
use Rattle.st_expression_stack.specs.Items.{Item, Acted}
use Rattle.st_expression_stack.specs.Messages.{with_arguments}
use Rattle.st_expression_stack.specs.inside.Stacks.{stack_view}
use Rattle.st_expression_stack.proofs.sending.take_arguments.Given as goal

abbrev pub invariant-loop-i : goal.invariant-loop-i
invariant-loop-i l = (f : ExpressionsView → (least height : ℕ) → List Item → Option Acted)
    → with_arguments (l.count - l.i) (expressions_view (reverse l.arguments.list.items)) l.arguments.least l.arguments.height (stack_view l.items.items) f ≡ with_arguments l.count no_expressions 64 0 (stack_view l.fn.items.items) f
