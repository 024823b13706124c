use Rattle.st_call.proofs.Pushing.{push_then, push_begun}
use Rattle.st_browse.proofs.senders.push_both.Goals as goal

pub returns-in_err-push_side : goal.returns-in_err-push_side
returns-in_err-push_side g c = push_begun _ c.from_residual.ensures.0 c.in_err-push_side.ensures

pub returns : goal.returns
returns g c = push_then c.in_ok-push_side.ensures c.push_side-2.ensures
