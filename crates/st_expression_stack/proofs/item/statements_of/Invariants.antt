use Rattle.std.proofs.Common.{◌≡◌, length, reverse}
use Rattle.st_scan.specs.Views.{statements_view}
use Rattle.st_expression_stack.specs.Items.{statements_before, statements_of}
use Rattle.st_expression_stack.specs.inside.Stacks.{stack_view}
use Rattle.st_expression_stack.proofs.item.statements_of.Given as goal

abbrev pub invariant-loop-taken : goal.invariant-loop-taken
invariant-loop-taken l = statements_before (statements_view (reverse l.taken.list.items)) l.taken.least l.taken.height (stack_view l.items.items) ≡ statements_of (stack_view l.fn.items.items)

abbrev pub decreases-loop-taken : goal.decreases-loop-taken
decreases-loop-taken l = length l.items.items
