use Rattle.std.proofs.Common.{ap}
use Rattle.st_expression_stack.specs.Items.{goes_on}
use Rattle.st_expression_stack.proofs.Stacking.{stack_push}
use Rattle.st_decompile.proofs.reading.put.Goals as goal

pub returns : goal.returns
returns c = ap goes_on (stack_push c.args.items.now.items c.push.new.self.items c.args.item c.in_ok-push.ensures.items)
