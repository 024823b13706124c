use Rattle.st_expression_stack.proofs.SentItems.{finished_is}
use Rattle.st_expression_stack.proofs.sending.finished.Goals as goal

pub returns : goal.returns
returns c =
    finished_is c.args.lookup c.args.message c.args.receiver c.in_ok-receiver.receiver c.in_ok-sent.field-0 c.args.earlier c.push.new.self c.in_ok-receiver.ensures c.in_ok-push.ensures.items c.in_ok-sent.ensures
