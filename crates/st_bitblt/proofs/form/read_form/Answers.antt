use Rattle.std.proofs.Common.{◌≡◌, rules, Err, arith}
use Rattle.st_model.specs.Values.{word}
use Rattle.st_bitblt.specs.inside.Reading.{units_in}
use Rattle.st_bitblt.proofs.Readings.{form_went, form_died}
use Rattle.st_model.proofs.Runs.{runs}
use Rattle.st_model.specs.BitBlt.{read_form}
use Rattle.st_bitblt.proofs.form.read_form.Goals as goal

pub returns-in_err-check_words-clause-does : goal.returns-in_err-check_words-clause-does
returns-in_err-check_words-clause-does g c =
    let e : c.from_residual-in_err-check_words.result ≡ Err c.in_err-check_words.field-0.0 = search rules in
    rw e (λ s q. form_died g.O.Objects.names (word c.args.o) (word c.in_ok-bits.bits) c.in_ok-width.width c.in_ok-height.height s
    (c.in_ok-bits.ensures s q) (c.in_ok-width.ensures.does s q) (c.in_ok-height.ensures.does s q) c.in_err-check_words.field-0.0 (rw c.row_words.ensures at c.in_err-check_words.ensures.does s q))

pub returns-clause-does : goal.returns-clause-does
returns-clause-does g c = λ s q.
    form_went g.O.Objects.names (word c.args.o) (word c.in_ok-bits.bits) c.in_ok-width.width c.in_ok-height.height s
    (c.in_ok-bits.ensures s q) (c.in_ok-width.ensures.does s q) (c.in_ok-height.ensures.does s q) (units_in (g.O.Objects.table c.args.m.now) (word c.in_ok-bits.bits)) (rw c.row_words.ensures at c.in_ok-check_words.ensures.does s q)

pub returns-in_err-bits-clause-does : goal.returns-in_err-bits-clause-does
unfolding read_form
returns-in_err-bits-clause-does g c = grind (arith, runs)

pub returns-in_err-width-clause-does : goal.returns-in_err-width-clause-does
unfolding read_form
returns-in_err-width-clause-does g c = grind (arith, runs)

pub returns-in_err-height-clause-does : goal.returns-in_err-height-clause-does
unfolding read_form
returns-in_err-height-clause-does g c = grind (arith, runs)
