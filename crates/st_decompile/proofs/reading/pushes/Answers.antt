use Rattle.std.proofs.Common.{◌≡◌, ◌∷◌, sym, ap, ◌∙◌}
use Rattle.std.specs.Prelude.{option_map}
use Rattle.st_scan.specs.Views.{expression_view}
use Rattle.st_resolved.specs.Instructions.{on_some}
use Rattle.st_expression_stack.specs.Items.{leaf, piece, goes_on}
use Rattle.st_expression_stack.specs.inside.Stacks.{stack_view}
use Rattle.st_decompile.proofs.ReadTurns.{piece_put}
use Rattle.st_decompile.proofs.reading.pushes.Goals as goal

pub returns : goal.returns
returns c =
    let old = c.args.items.now.items in
    ap goes_on (piece_put old c.push.new.self.items c.leaf.result (leaf (expression_view c.in-Some.tree) c.args.at) c.in_ok-push.ensures.items c.leaf.ensures)
    ∙ ap (λ o. on_some o (λ e. goes_on (piece (leaf e c.args.at) ∷ stack_view old))) (sym (ap (option_map expression_view) c.in-Some.is) ∙ c.in_ok-tree.ensures)
