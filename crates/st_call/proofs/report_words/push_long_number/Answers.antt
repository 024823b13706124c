use Rattle.std.proofs.Common.{◌∙◌}
use Rattle.st_call.proofs.Pushing.{push_then, push_begun, push_as}
use Rattle.st_call.proofs.report_words.push_long_number.Goals as goal

pub returns-in_err-push : goal.returns-in_err-push
returns-in_err-push g c = push_begun _ c.from_residual.ensures.0 c.in_err-push.ensures

pub returns : goal.returns
returns g c = push_then c.in_ok-push.ensures (push_as c.push-2.ensures (c.as_bytes.ensures.value ∙ c.format.ensures.text))
