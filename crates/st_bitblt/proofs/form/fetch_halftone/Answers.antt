use Rattle.std.proofs.Common.{◌≡◌, rules, refl, Err, Ok, Some}
use Rattle.std.specs.Option.{option_map}
use Rattle.st_model.specs.Values.{word}
use Rattle.st_model.specs.inside.Calls.{Reads}
use Rattle.st_model.specs.BitBlt.{fetch_form}
use Rattle.st_bitblt.specs.inside.Reading.{IsForm, form_in}
use Rattle.st_bitblt.proofs.Readings.{halftone_short}
use Rattle.st_bitblt.proofs.form.fetch_halftone.Goals as goal

pub returns-in_err-check_words-clause-does : goal.returns-in_err-check_words-clause-does
returns-in_err-check_words-clause-does g c =
    let t = g.O.Objects.table c.args.m.now in
    let e : c.from_residual-in_err-check_words.result ≡ Err c.in_err-check_words.field-0.0 = search rules in
    let f : IsForm t c.in-Some.form = rw c.in-Some.is at c.in_ok-found.ensures.form in
    let d : Reads (fetch_form g.O.Objects.names (word c.args.bit_blt) 2) (option_map (form_in t)) t (Ok (Some c.in-Some.form)) = rw c.in-Some.is at c.in_ok-found.ensures.does in
    rw e (λ s q. halftone_short g.met.O.Objects.tabular (word c.args.bit_blt) (word c.in-Some.form.bits) t _ (form_in t c.in-Some.form) s c.in_err-check_words.field-0.0 f.bits q refl (d s q) (c.in_err-check_words.ensures.does s q))
