use Rattle.std.proofs.Common.{◌≡◌, ◌∙◌, ap, arith, w32, to_z, of_z}
use Rattle.std.specs.Fmt.{signed_decimal}
use Rattle.std.proofs.lemmas.Int.{to_z-of_z}
use Rattle.st_call.proofs.Pushing.{push_then, push_begun, push_as}
use Rattle.st_call.proofs.report_words.push_integer.Goals as goal

pub returns-in_err-push : goal.returns-in_err-push
returns-in_err-push g c = push_begun _ c.from_residual.ensures.0 c.in_err-push.ensures

-- a number with a sign is handed over as its bits
pub returns : goal.returns
returns g c =
    let same : to_z w32 (of_z w32 c.args.n) ≡ c.args.n = grind (arith, to_z-of_z) in
    push_then c.in_ok-push.ensures (push_as c.push-2.ensures (c.as_bytes.ensures.value ∙ (c.format.ensures.text ∙ ap signed_decimal same)))
