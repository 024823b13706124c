use Rattle.std.proofs.Common.{◌∙◌}
use Rattle.st_expression_stack.proofs.TreeTurns.{alone_none, alone_one, alone_many}
use Rattle.st_expression_stack.proofs.make.alone.Goals as goal

pub returns-in-empty : goal.returns-in-empty
returns-in-empty c = alone_none c.args.statements.now c.in-empty.len_below

pub returns-in-len1 : goal.returns-in-len1
returns-in-len1 c = c.constant_in.ensures ∙ alone_one c.args.statements.now c.only-item.result c.in-len1.len_at_least c.in-len1.len_below c.only-item.is

pub returns-in-len2-up : goal.returns-in-len2-up
returns-in-len2-up c = alone_many c.args.statements.now c.in-len2-up.len_at_least
