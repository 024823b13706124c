use Rattle.st_call.proofs.Pushing.{push_then, push_begun, push_as}
use Rattle.st_browse.proofs.line.push_sender_line.Goals as goal

pub returns-in_err-push : goal.returns-in_err-push
returns-in_err-push g c = push_begun _ c.from_residual.ensures.0 c.in_err-push.ensures

pub returns-in_err-push_bytes : goal.returns-in_err-push_bytes
returns-in_err-push_bytes g c = push_then c.in_ok-push.ensures (push_begun _ c.from_residual-in_err-push_bytes.ensures.0 c.in_err-push_bytes.ensures)

pub returns-in_err-push-2 : goal.returns-in_err-push-2
returns-in_err-push-2 g c =
    push_then c.in_ok-push.ensures (push_then c.in_ok-push_bytes.ensures
    (push_begun _ c.from_residual-in_err-push-2.ensures.0 (push_as c.in_err-push-2.ensures c.side_word.ensures)))

pub returns-in_err-push-3 : goal.returns-in_err-push-3
returns-in_err-push-3 g c =
    push_then c.in_ok-push.ensures (push_then c.in_ok-push_bytes.ensures (push_then (push_as c.in_ok-push-2.ensures c.side_word.ensures)
    (push_begun _ c.from_residual-in_err-push-3.ensures.0 c.in_err-push-3.ensures)))

pub returns-in_err-push_bytes-2 : goal.returns-in_err-push_bytes-2
returns-in_err-push_bytes-2 g c =
    push_then c.in_ok-push.ensures (push_then c.in_ok-push_bytes.ensures (push_then (push_as c.in_ok-push-2.ensures c.side_word.ensures) (push_then c.in_ok-push-3.ensures
    (push_begun _ c.from_residual-in_err-push_bytes-2.ensures.0 c.in_err-push_bytes-2.ensures))))

pub returns : goal.returns
returns g c =
    push_then c.in_ok-push.ensures (push_then c.in_ok-push_bytes.ensures (push_then (push_as c.in_ok-push-2.ensures c.side_word.ensures)
    (push_then c.in_ok-push-3.ensures (push_then c.in_ok-push_bytes-2.ensures c.push-4.ensures))))
