use Rattle.std.proofs.Common.{◌≡◌, ◌++◌, length}
use Rattle.st_scan.specs.Views.{names_view}
use Rattle.st_expression_stack.specs.inside.Stacks.{stack_view}
use Rattle.st_decompile.specs.inside.Read.{arguments_by}
use Rattle.st_decompile.proofs.reading.other_arguments.Given as goal

abbrev pub invariant-loop-names : goal.invariant-loop-names
invariant-loop-names l = names_view l.names.items ++ arguments_by l.reading (stack_view l.items.items) ≡ names_view l.fn.first.items ++ arguments_by l.reading (stack_view l.fn.items.items)

abbrev pub decreases-loop-names : goal.decreases-loop-names
decreases-loop-names l = length l.items.items
