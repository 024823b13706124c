use Rattle.std.proofs.Common.{◌≡◌, ◌++◌, ap, arith, w32, to_z, of_z}
use Rattle.std.specs.Prelude.{ℤ, codes, decimal}
use Rattle.std.specs.Fmt.{signed_decimal}
use Rattle.std.proofs.lemmas.Int.{to_z-of_z}
use Rattle.st_call.proofs.Pushing.{push_then, push_begun, push_as}
use Rattle.st_debug.proofs.watching.push_at.Goals as goal

pub returns-in_err-push : goal.returns-in_err-push
returns-in_err-push g c = push_begun _ c.from_residual.ensures.0 c.in_err-push.ensures

pub returns-in_err-push_values : goal.returns-in_err-push_values
returns-in_err-push_values g c = push_then c.in_ok-push.ensures (push_begun _ c.from_residual-in_err-push_values.ensures.0 c.in_err-push_values.ensures)

pub returns-in_err-push_integer : goal.returns-in_err-push_integer
returns-in_err-push_integer g c =
    let place : to_z w32 (of_z w32 c.args.at.place) ≡ c.args.at.place = grind (arith, to_z-of_z) in
    push_then c.in_ok-push.ensures (push_then c.in_ok-push_values.ensures (push_begun _ c.from_residual-in_err-push_integer.ensures.0 (push_as c.in_err-push_integer.ensures (ap (λ (n : ℤ). codes " " ++ signed_decimal n) place))))

pub returns-in_err-push_number : goal.returns-in_err-push_number
returns-in_err-push_number g c =
    let place : to_z w32 (of_z w32 c.args.at.place) ≡ c.args.at.place = grind (arith, to_z-of_z) in
    push_then c.in_ok-push.ensures (push_then c.in_ok-push_values.ensures (push_then (push_as c.in_ok-push_integer.ensures (ap (λ (n : ℤ). codes " " ++ signed_decimal n) place))
    (push_begun _ c.from_residual-in_err-push_number.ensures.0 (push_as c.in_err-push_number.ensures (ap (λ n. codes " " ++ decimal n) c.from.ensures)))))

pub returns : goal.returns
returns g c =
    let place : to_z w32 (of_z w32 c.args.at.place) ≡ c.args.at.place = grind (arith, to_z-of_z) in
    push_then c.in_ok-push.ensures (push_then c.in_ok-push_values.ensures (push_then (push_as c.in_ok-push_integer.ensures (ap (λ (n : ℤ). codes " " ++ signed_decimal n) place))
    (push_then (push_as c.in_ok-push_number.ensures (ap (λ n. codes " " ++ decimal n) c.from.ensures)) c.push-2.ensures)))
