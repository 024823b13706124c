use Rattle.st_call.proofs.Pushing.{push_then, push_begun}
use Rattle.st_call.proofs.replies.push_accepted.Goals as goal

pub returns-in_err-push : goal.returns-in_err-push
returns-in_err-push g c = push_begun _ c.from_residual.ensures.0 c.in_err-push.ensures

pub returns-in_err-push-2 : goal.returns-in_err-push-2
returns-in_err-push-2 g c = push_then c.in_ok-push.ensures (push_begun _ c.from_residual-in_err-push-2.ensures.0 c.in_err-push-2.ensures)

pub returns-in_err-push_side : goal.returns-in_err-push_side
returns-in_err-push_side g c =
    push_then c.in_ok-push.ensures (push_then c.in_ok-push-2.ensures (push_begun _ c.from_residual-in_err-push_side.ensures.0 c.in_err-push_side.ensures))

pub returns-in_err-push-3 : goal.returns-in_err-push-3
returns-in_err-push-3 g c =
    push_then c.in_ok-push.ensures (push_then c.in_ok-push-2.ensures (push_then c.in_ok-push_side.ensures
    (push_begun _ c.from_residual-in_err-push-3.ensures.0 c.in_err-push-3.ensures)))

pub returns-in_err-push-4 : goal.returns-in_err-push-4
returns-in_err-push-4 g c =
    push_then c.in_ok-push.ensures (push_then c.in_ok-push-2.ensures (push_then c.in_ok-push_side.ensures (push_then c.in_ok-push-3.ensures
    (push_begun _ c.from_residual-in_err-push-4.ensures.0 c.in_err-push-4.ensures))))

pub returns : goal.returns
returns g c =
    push_then c.in_ok-push.ensures (push_then c.in_ok-push-2.ensures (push_then c.in_ok-push_side.ensures (push_then c.in_ok-push-3.ensures
    (push_then c.in_ok-push-4.ensures c.push-5.ensures))))
