use Rattle.st_call.proofs.Pushing.{push_none}
use Rattle.st_call.proofs.replies.push_side.Goals as goal

pub returns-else-meta : goal.returns-else-meta
returns-else-meta g c = rw c.if-meta.false (push_none g.H.Host c.args.host.now (g.met.H.Host.only_now c.args.host.now))
