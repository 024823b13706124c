use Rattle.std.proofs.Common.{arith}
use Rattle.st_expression_stack.specs.inside.Stacks.{stack_view, taken_view}
use Rattle.st_scan.specs.Views.{expression_view, names_view}
use Rattle.st_decompile.proofs.ReadTurns.{block_is}
use Rattle.st_decompile.proofs.reading.block_piece.Goals as goal

pub returns : goal.returns
returns c =
    let declared = c.in_ok-declared.declared in
    block_is c.args.reading c.args.at (stack_view c.args.made.items) (taken_view c.in_ok-body.body c.statements_of.new.items.items) (expression_view c.block-tree.result) declared.least c.in_ok-height.height (names_view declared.names.items) c.in_ok-body.ensures c.block-tree.ensures c.in_ok-declared.ensures.0 c.in_ok-declared.ensures.1 (omega (arith, c.in_ok-height.ensures))
