use Rattle.std.proofs.Common.{◌≡◌, ◌∙◌, sym, rules, Err}
use Rattle.st_model.specs.Values.{word}
use Rattle.st_bitblt.proofs.Readings.{fetch_form_none, fetch_form_died, fetch_form_went}
use Rattle.st_bitblt.proofs.form.fetch_form.Goals as goal

pub returns-then-same-clause-does : goal.returns-then-same-clause-does
returns-then-same-clause-does g c = λ s q.
    fetch_form_none g.met.O.Objects.tabular (word c.args.bit_blt) (word c.in_ok-o.o) c.args.i s (c.in_ok-o.ensures s q) (sym c.same.ensures ∙ c.if-same.true)

pub returns-in_err-read_form-clause-does : goal.returns-in_err-read_form-clause-does
returns-in_err-read_form-clause-does g c =
    let e : c.from_residual-in_err-read_form.result ≡ Err c.in_err-read_form.field-0.0 = search rules in
    rw e (λ s q. fetch_form_died g.met.O.Objects.tabular (word c.args.bit_blt) (word c.in_ok-o.o) c.args.i s (c.in_ok-o.ensures s q) c.in_err-read_form.field-0.0 (sym c.same.ensures ∙ c.if-same.false) (c.in_err-read_form.ensures.does s q))

pub returns-clause-does : goal.returns-clause-does
returns-clause-does g c = λ s q.
    fetch_form_went g.met.O.Objects.tabular (word c.args.bit_blt) (word c.in_ok-o.o) c.args.i s (c.in_ok-o.ensures s q) _ (sym c.same.ensures ∙ c.if-same.false) (c.in_ok-read_form.ensures.does s q)
