use Rattle.std.proofs.Common.{append-nil}
use Rattle.st_model.specs.Values.{value}
use Rattle.st_call.specs.inside.Saying.{said_in}
use Rattle.st_call.proofs.Pushing.{push_then, push_as}
use Rattle.st_call.proofs.said.say_at_once.Goals as goal

pub returns-clause-says : goal.returns-clause-says
returns-clause-says g c =
    push_as (push_then c.in_ok-push_said.ensures c.flush.ensures.pushes) (append-nil (said_in (g.M.Memory.view c.args.m.now).objects (value c.args.o)))
