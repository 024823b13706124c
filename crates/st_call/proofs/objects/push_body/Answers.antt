use Rattle.std.proofs.Common.{◌∙◌, ap}
use Rattle.st_model.specs.Text.{colon_text}
use Rattle.st_call.proofs.Pushing.{push_then, push_begun, push_as}
use Rattle.st_call.proofs.objects.push_body.Goals as goal

pub returns-in_err-push_fields : goal.returns-in_err-push_fields
returns-in_err-push_fields g c = push_begun _ c.from_residual.ensures.0 c.in_err-push_fields.ensures

pub returns-in_err-push : goal.returns-in_err-push
returns-in_err-push g c =
    let colon = c.colon.ensures ∙ ap colon_text c.kind.ensures.kind in
    push_then c.in_ok-push_fields.ensures (push_begun _ c.from_residual-in_err-push.ensures.0 (push_as c.in_err-push.ensures colon))

pub returns-in_err-push_units : goal.returns-in_err-push_units
returns-in_err-push_units g c =
    let colon = c.colon.ensures ∙ ap colon_text c.kind.ensures.kind in
    push_then c.in_ok-push_fields.ensures
    (push_then (push_as c.in_ok-push.ensures colon) (push_begun _ c.from_residual-in_err-push_units.ensures.0 c.in_err-push_units.ensures))

pub returns : goal.returns
returns g c =
    let colon = c.colon.ensures ∙ ap colon_text c.kind.ensures.kind in
    push_then c.in_ok-push_fields.ensures
    (push_then (push_as c.in_ok-push.ensures colon) (push_then c.in_ok-push_units.ensures c.push-2.ensures))
