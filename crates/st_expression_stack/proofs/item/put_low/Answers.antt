use Rattle.st_expression_stack.proofs.Stacking.{put_is}
use Rattle.st_expression_stack.proofs.item.put_low.Goals as goal

pub returns-in_ok-push : goal.returns-in_ok-push
returns-in_ok-push c = put_is c.args.items.now.items c.push.new.self.items c.args.piece c.is_low-low.result c.is_low-low.ensures c.if-low.true c.in_ok-push.ensures.items
