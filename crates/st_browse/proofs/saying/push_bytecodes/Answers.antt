use Rattle.std.proofs.Common.{◌∙◌, ◌+◌, ◌*◌, ap}
use Rattle.std.specs.Prelude.{codes}
use Rattle.st_model.specs.Values.{value}
use Rattle.st_model.specs.View.{object_of}
use Rattle.st_call.proofs.Pushing.{push_then, push_begun, push_as}
use Rattle.st_parts.specs.Cutting.{codes_of}
use Rattle.st_browse.specs.Replies.{codes_text, count_text}
use Rattle.st_browse.proofs.saying.push_bytecodes.Goals as goal

pub returns-in_err-push_long_line : goal.returns-in_err-push_long_line
returns-in_err-push_long_line g c =
    push_begun _ c.from_residual.ensures.0 (push_as c.in_err-push_long_line.ensures (ap (count_text (codes "bytecodes")) (c.from.ensures ∙ c.count_codes.ensures)))

pub returns : goal.returns
returns g c =
    let o = object_of (g.M.Memory.view c.args.m.now).objects (value c.args.body.method) in
    let place = ap (λ n. codes_text (2 * n + 1) (codes_of o.units)) c.requires.fields in
    push_then (push_as c.in_ok-push_long_line.ensures (ap (count_text (codes "bytecodes")) (c.from.ensures ∙ c.count_codes.ensures))) (push_as c.push_codes.ensures place)
