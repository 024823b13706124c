use Rattle.std.proofs.Common.{ap, ◌∙◌}
use Rattle.st_expression_stack.specs.inside.Stacks.{stack_view}
use Rattle.st_expression_stack.proofs.SentItems.{popped_answered, popped_kept}
use Rattle.st_expression_stack.proofs.sending.popped_item.Goals as goal

pub returns-in-Answered : goal.returns-in-Answered
returns-in-Answered c = popped_answered c.args.items.now.items c.args.top c.in-Answered.is

pub returns-in_ok-push-in_default : goal.returns-in_ok-push-in_default
returns-in_ok-push-in_default c = ap stack_view c.in_ok-push-in_default.ensures.items ∙ popped_kept c.args.items.now.items c.args.top c.in_default.not-Answered
