use Rattle.std.proofs.Common.{◌≡◌, ◌-◌, ap, sym, ◌∙◌}
use Rattle.st_expression_stack.specs.inside.Stacks.{stack_view, chosen_if}
use Rattle.st_decompile.proofs.Regioned.{loop_done, loop_not}
use Rattle.st_decompile.proofs.region.repeats.Goals as goal

pub returns-then-made : goal.returns-then-made
returns-then-made c =
    loop_done c.args.jump c.args.next c.saturating_sub-at.result (stack_view c.args.body.items) (stack_view c.args.items.now.items) (c.saturating_sub-at.ensures ∙ ap (λ n. n - c.args.jump.end) c.in_ok-sum.ensures)
    c.looped.new.items.items c.in_ok-skip.skip c.in_ok-skip.ensures
    (ap (λ ok. chosen_if ok c.looped.new.items.items) (sym c.if-made.true) ∙ c.in_ok-made.ensures)

pub returns-else-made : goal.returns-else-made
returns-else-made c =
    loop_not c.args.jump c.args.next c.saturating_sub-at.result (stack_view c.args.body.items) (stack_view c.args.items.now.items) (c.saturating_sub-at.ensures ∙ ap (λ n. n - c.args.jump.end) c.in_ok-sum.ensures)
    c.looped.new.items.items
    (ap (λ ok. chosen_if ok c.looped.new.items.items) (sym c.if-made.false) ∙ c.in_ok-made.ensures)
