use Rattle.std.proofs.Common.{◌≡◌, ◌≤◌, List, ℕ, length, sym, subst, ◌∙◌}
use Rattle.st_model.specs.Limits.{longest_image}
use Rattle.st_image.specs.HeadValues.{no_values, head_over}
use Rattle.st_image.specs.inside.Rows.{IsReadFault}
use Rattle.st_image.specs.declared.error.ReadImage.{ReadImage}
use Rattle.st_recover.proofs.Started.{readable, started, faulty}
use Rattle.st_recover.proofs.reopening.read_image.Goals as goal

pub returns-in-Ok-clause-readable : goal.returns-in-Ok-clause-readable
returns-in-Ok-clause-readable g c told =
    let seen : c.deref.result.now ≡ c.in_ok-bytes.bytes.items = c.deref.ensures.value in
    let short = subst (λ (b : List ℕ). length b ≤ longest_image) (sym seen) c.in_ok-bytes.ensures.short in
    readable c.deref.result.now _ (seen ∙ c.in_ok-bytes.ensures.bytes told) short c.in-Ok.ensures.well_formed

pub returns-in-Ok-clause-start : goal.returns-in-Ok-clause-start
returns-in-Ok-clause-start g c told =
    let seen : c.deref.result.now ≡ c.in_ok-bytes.bytes.items = c.deref.ensures.value in
    started c.deref.result.now _ _ _ (seen ∙ c.in_ok-bytes.ensures.bytes told) c.in-Ok.ensures.start

pub returns-in-Err-Fault-clause-refused : goal.returns-in-Err-Fault-clause-refused
returns-in-Err-Fault-clause-refused g c told =
    let seen : c.deref.result.now ≡ c.in_ok-bytes.bytes.items = c.deref.ensures.value in
    let short = subst (λ (b : List ℕ). length b ≤ longest_image) (sym seen) c.in_ok-bytes.ensures.short in
    let is : IsReadFault (head_over no_values c.deref.result.now) c.deref.result.now c.in-Err-Fault.field-0 = c.in-Err-Fault.ensures.fault in
    faulty c.deref.result.now _ c.in-Err-Fault.fault (seen ∙ c.in_ok-bytes.ensures.bytes told) short
    (subst (λ (e : ReadImage). IsReadFault (head_over no_values c.deref.result.now) c.deref.result.now e) c.in-Err-Fault.field-0-is is)
