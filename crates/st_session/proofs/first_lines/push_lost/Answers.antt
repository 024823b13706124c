use Rattle.std.proofs.Common.{◌++◌, sym, append-nil}
use Rattle.std.specs.Prelude.{codes, decimal}
use Rattle.st_call.proofs.Pushing.{push_then, push_begun, push_as}
use Rattle.st_session.proofs.first_lines.push_lost.Goals as goal

pub returns-in_err-push : goal.returns-in_err-push
returns-in_err-push g c = push_begun _ c.from_residual.ensures.0 c.in_err-push.ensures

pub returns-in_err-push_number : goal.returns-in_err-push_number
returns-in_err-push_number g c =
    push_then c.in_ok-push.ensures (push_begun _ c.from_residual-in_err-push_number.ensures.0
    (push_as c.in_err-push_number.ensures (sym (append-nil (codes " " ++ decimal c.args.lost.now.number)))))

pub returns-in_err-push-2 : goal.returns-in_err-push-2
returns-in_err-push-2 g c =
    push_then c.in_ok-push.ensures (push_then (push_as c.in_ok-push_number.ensures (sym (append-nil (codes " " ++ decimal c.args.lost.now.number))))
    (push_begun _ c.from_residual-in_err-push-2.ensures.0 c.in_err-push-2.ensures))

pub returns : goal.returns
returns g c =
    push_then c.in_ok-push.ensures (push_then (push_as c.in_ok-push_number.ensures (sym (append-nil (codes " " ++ decimal c.args.lost.now.number))))
    (push_then c.in_ok-push-2.ensures c.push_why.ensures))
