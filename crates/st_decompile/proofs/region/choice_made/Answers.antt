use Rattle.std.proofs.Common.{◌≡◌, None, refl, sym, ap, ◌∙◌}
use Rattle.st_expression_stack.specs.inside.Stacks.{stack_view, stack_if, chosen_if}
use Rattle.st_decompile.specs.inside.Read.{choice_made_by}
use Rattle.st_decompile.proofs.Regioned.{choice_done, choice_not}
use Rattle.st_decompile.proofs.region.choice_made.Goals as goal

pub returns-in_default : goal.returns-in_default
returns-in_default c = sym (ap (λ o. choice_made_by c.args.jump (stack_view c.args.first.items) (stack_if o) (stack_view c.args.items.now.items)) c.in_default.is)

pub returns-then-made : goal.returns-then-made
returns-then-made c =
    choice_done c.args.jump (stack_view c.args.first.items) (stack_view c.in-Some.other.items) (stack_view c.args.items.now.items) c.chosen.new.items.items c.in_ok-skip.skip c.args.second c.in-Some.other c.in-Some.is refl c.in_ok-skip.ensures
    (ap (λ ok. chosen_if ok c.chosen.new.items.items) (sym c.if-made.true) ∙ c.in_ok-made.ensures)

pub returns-else-made : goal.returns-else-made
returns-else-made c =
    choice_not c.args.jump (stack_view c.args.first.items) (stack_view c.in-Some.other.items) (stack_view c.args.items.now.items) c.chosen.new.items.items c.args.second c.in-Some.other c.in-Some.is refl
    (ap (λ ok. chosen_if ok c.chosen.new.items.items) (sym c.if-made.false) ∙ c.in_ok-made.ensures)
