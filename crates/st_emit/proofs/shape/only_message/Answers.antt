use Rattle.st_emit.specs.Nodes.{is_above}
use Rattle.st_emit.proofs.Shapes.{cascade_many}
use Rattle.st_emit.proofs.shape.only_message.Goals as goal

pub returns-in-len2-up-clause-view : goal.returns-in-len2-up-clause-view
returns-in-len2-up-clause-view c = cascade_many (is_above c.args.lookup) c.args.messages.now c.in-len2-up.len_at_least
