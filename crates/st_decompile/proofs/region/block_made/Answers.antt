use Rattle.std.proofs.Common.{◌≡◌, refl, sym, ap, ◌∙◌}
use Rattle.st_expression_stack.specs.Items.{Piece, put_low}
use Rattle.st_expression_stack.specs.inside.Stacks.{stack_view, stack_if, chosen_if}
use Rattle.st_decompile.specs.inside.Read.{block_made_by}
use Rattle.st_decompile.proofs.Regioned.{block_done, block_not}
use Rattle.st_decompile.proofs.region.block_made.Goals as goal

pub returns-in_default : goal.returns-in_default
returns-in_default c = sym (ap (λ o. block_made_by c.args.reading c.args.start c.args.distance (stack_if o) (stack_view c.args.items.now.items)) c.in_default.is)

pub returns-then-low : goal.returns-then-low
returns-then-low c =
    let old = stack_view c.args.items.now.items in
    block_done c.args.reading c.args.start c.args.distance (stack_view c.in-Some.body.items) old c.put_low.new.items.items c.in_ok-skip.skip c.args.made c.in-Some.body c.in-Some.is refl c.in_ok-skip.ensures
    (ap (λ ok. chosen_if ok c.put_low.new.items.items) (sym c.if-low.true) ∙ c.in_ok-low.ensures ∙ ap (λ (p : Piece). put_low p old) c.in_ok-block.ensures)

pub returns-else-low : goal.returns-else-low
returns-else-low c =
    let old = stack_view c.args.items.now.items in
    block_not c.args.reading c.args.start c.args.distance (stack_view c.in-Some.body.items) old c.put_low.new.items.items c.args.made c.in-Some.body c.in-Some.is refl
    (ap (λ ok. chosen_if ok c.put_low.new.items.items) (sym c.if-low.false) ∙ c.in_ok-low.ensures ∙ ap (λ (p : Piece). put_low p old) c.in_ok-block.ensures)
