use Rattle.std.proofs.Common.{◌≡◌, rules, Err, arith}
use Rattle.st_model.specs.Values.{word}
use Rattle.st_bitblt.proofs.Readings.{copy_died, copy_went}
use Rattle.st_model.proofs.Runs.{runs}
use Rattle.st_model.specs.BitBlt.{read_copy}
use Rattle.st_bitblt.proofs.bit_blt.read_bit_blt.Goals as goal

pub returns-in_err-down-clause-does : goal.returns-in_err-down-clause-does
returns-in_err-down-clause-does g c =
    let e : c.from_residual-in_err-down.result ≡ Err c.in_err-down.field-0.0 = search rules in
    rw e (λ s q. copy_died g.O.Objects.names (word c.args.bit_blt) s _ _ _ _ _ (c.in_ok-destination.ensures.does s q) (c.in_ok-source.ensures.does s q) (c.in_ok-halftone.ensures.does s q) (c.in_ok-rule.ensures.does s q) (c.in_ok-across.ensures.does s q)
    c.in_err-down.field-0.0 (c.in_err-down.ensures.does s q))

pub returns-clause-does : goal.returns-clause-does
returns-clause-does g c = λ s q.
    copy_went g.O.Objects.names (word c.args.bit_blt) s _ _ _ _ _ (c.in_ok-destination.ensures.does s q) (c.in_ok-source.ensures.does s q) (c.in_ok-halftone.ensures.does s q) (c.in_ok-rule.ensures.does s q) (c.in_ok-across.ensures.does s q)
    _ (c.in_ok-down.ensures.does s q)

pub returns-in_err-destination-clause-does : goal.returns-in_err-destination-clause-does
unfolding read_copy
returns-in_err-destination-clause-does g c = grind (arith, runs)

pub returns-in_err-source-clause-does : goal.returns-in_err-source-clause-does
unfolding read_copy
returns-in_err-source-clause-does g c = grind (arith, runs)

pub returns-in_err-halftone-clause-does : goal.returns-in_err-halftone-clause-does
unfolding read_copy
returns-in_err-halftone-clause-does g c = grind (arith, runs)

pub returns-in_err-rule-clause-does : goal.returns-in_err-rule-clause-does
unfolding read_copy
returns-in_err-rule-clause-does g c = grind (arith, runs)

pub returns-in_err-across-clause-does : goal.returns-in_err-across-clause-does
unfolding read_copy
returns-in_err-across-clause-does g c = grind (arith, runs)
