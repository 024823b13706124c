use Rattle.std.proofs.Common.{rules}
use Rattle.st_expression_stack.proofs.Stacking.{argument_on_top, no_argument_on_top}
use Rattle.st_expression_stack.proofs.item.argument_or_back.Goals as goal

pub returns-in-Argument : goal.returns-in-Argument
returns-in-Argument c = argument_on_top c.args.items.now.items c.args.item c.in-Argument.place c.in-Argument.is

pub returns-in_ok-push-in_default : goal.returns-in_ok-push-in_default
returns-in_ok-push-in_default c = (no_argument_on_top c.args.items.now.items c.args.item c.in_default.not-Argument, search rules)
