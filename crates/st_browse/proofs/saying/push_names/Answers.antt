use Rattle.std.proofs.Common.{◌∙◌, ap}
use Rattle.st_call.proofs.Pushing.{push_then, push_begun, push_as}
use Rattle.st_browse.specs.Replies.{count_text}
use Rattle.st_browse.proofs.saying.push_names.Goals as goal

pub returns-in_err-push_long_line : goal.returns-in_err-push_long_line
returns-in_err-push_long_line g c =
    push_begun _ c.from_residual.ensures.0 (push_as c.in_err-push_long_line.ensures (ap (count_text c.args.word.now) (c.from.ensures ∙ c.count_listed.ensures.count)))

pub returns : goal.returns
returns g c =
    push_then (push_as c.in_ok-push_long_line.ensures (ap (count_text c.args.word.now) (c.from.ensures ∙ c.count_listed.ensures.count))) c.push_listed.ensures
