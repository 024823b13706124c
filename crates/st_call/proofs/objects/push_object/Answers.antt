use Rattle.st_call.proofs.Pushing.{push_then, push_begun}
use Rattle.st_call.proofs.objects.push_object.Goals as goal

pub returns-in_err-push_head : goal.returns-in_err-push_head
returns-in_err-push_head g c = push_begun _ c.from_residual.ensures.0 c.in_err-push_head.ensures

pub returns : goal.returns
returns g c = push_then c.in_ok-push_head.ensures c.push_body.ensures
