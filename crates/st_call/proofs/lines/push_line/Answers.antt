use Rattle.st_call.proofs.Pushing.{push_then, push_begun}
use Rattle.st_call.proofs.lines.push_line.Goals as goal

pub returns-in_err-push : goal.returns-in_err-push
returns-in_err-push g c = push_begun _ c.from_residual.ensures.0 c.in_err-push.ensures

pub returns-in_err-push_numbers : goal.returns-in_err-push_numbers
returns-in_err-push_numbers g c = push_then c.in_ok-push.ensures (push_begun _ c.from_residual-in_err-push_numbers.ensures.0 c.in_err-push_numbers.ensures)

pub returns : goal.returns
returns g c = push_then c.in_ok-push.ensures (push_then c.in_ok-push_numbers.ensures c.push-2.ensures)
