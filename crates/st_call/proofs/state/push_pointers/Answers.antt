use Rattle.std.proofs.Common.{◌≡◌, ◌++◌, ap, arith, w32, to_z, of_z}
use Rattle.std.specs.Prelude.{codes, ℤ}
use Rattle.std.specs.Fmt.{signed_decimal}
use Rattle.std.proofs.lemmas.Int.{to_z-of_z}
use Rattle.st_call.proofs.Pushing.{push_then, push_begun, push_as}
use Rattle.st_call.proofs.state.push_pointers.Goals as goal

-- a number with a sign is handed over as its bits
same : (n : ℤ) → to_z w32 (of_z w32 n) ≡ n → codes " " ++ signed_decimal (to_z w32 (of_z w32 n)) ≡ codes " " ++ signed_decimal n
same n e = ap (λ (m : ℤ). codes " " ++ signed_decimal m) e

pub returns-in_err-push_integer : goal.returns-in_err-push_integer
returns-in_err-push_integer g c =
    let ip : to_z w32 (of_z w32 c.args.ip) ≡ c.args.ip = grind (arith, to_z-of_z) in
    push_begun _ c.from_residual.ensures.0 (push_as c.in_err-push_integer.ensures (same c.args.ip ip))

pub returns-in_err-push_number : goal.returns-in_err-push_number
returns-in_err-push_number g c =
    let ip : to_z w32 (of_z w32 c.args.ip) ≡ c.args.ip = grind (arith, to_z-of_z) in
    push_then (push_as c.in_ok-push_integer.ensures (same c.args.ip ip))
    (push_begun _ c.from_residual-in_err-push_number.ensures.0 c.in_err-push_number.ensures)

pub returns : goal.returns
returns g c =
    let ip : to_z w32 (of_z w32 c.args.ip) ≡ c.args.ip = grind (arith, to_z-of_z) in
    push_then (push_as c.in_ok-push_integer.ensures (same c.args.ip ip)) (push_then c.in_ok-push_number.ensures c.push.ensures)
