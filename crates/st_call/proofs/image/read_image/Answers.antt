use Rattle.std.proofs.Common.{◌≡◌, ◌≤◌, List, ℕ, length, IsTrue, sym, subst, ◌∙◌}
use Rattle.st_host.specs.Files.{bytes_of}
use Rattle.st_model.specs.Limits.{longest_image}
use Rattle.st_image.specs.HeadValues.{head_over}
use Rattle.st_image.specs.inside.Rows.{IsReadFault}
use Rattle.st_image.specs.declared.error.ReadImage.{ReadImage}
use Rattle.st_image.proofs.Saved.{read_starts}
use Rattle.st_call.specs.Refusals.{IsFaultyOver}
use Rattle.st_call.proofs.Started.{readable, started, faulty, unread_in, cause_in}
use Rattle.st_call.proofs.image.read_image.Goals as goal

pub returns-in-Ok-clause-readable : goal.returns-in-Ok-clause-readable
returns-in-Ok-clause-readable g c told =
    let seen : c.deref.result.now ≡ c.in_ok-bytes.bytes.items = c.deref.ensures.value in
    let short = subst (λ (b : List ℕ). length b ≤ longest_image) (sym seen) c.in_ok-bytes.ensures.short in
    readable c.args.over.now c.deref.result.now _ (seen ∙ c.in_ok-bytes.ensures.bytes told) short c.in-Ok.ensures.well_formed

pub returns-in-Ok-clause-start : goal.returns-in-Ok-clause-start
returns-in-Ok-clause-start g c told =
    let seen : c.deref.result.now ≡ c.in_ok-bytes.bytes.items = c.deref.ensures.value in
    started c.args.over.now c.deref.result.now _ (seen ∙ c.in_ok-bytes.ensures.bytes told) _ _ c.in-Ok.ensures.start

pub returns-in_err-bytes-clause-refused : goal.returns-in_err-bytes-clause-refused
returns-in_err-bytes-clause-refused g c =
    unread_in (IsTrue g.H.Host.is_told) (IsFaultyOver c.args.over.now) (bytes_of (g.H.Host.files c.args.host.now c.args.name.now)) c.in_err-bytes.field-0.0 c.from_residual.result c.from_residual.ensures.1 c.in_err-bytes.ensures.refused

pub returns-in_err-bytes-clause-cause : goal.returns-in_err-bytes-clause-cause
returns-in_err-bytes-clause-cause g c =
    cause_in g.H.Host c.args.host.now c.read_file.new.host c.in_err-bytes.field-0.0 c.from_residual.result c.from_residual.ensures.1 c.in_err-bytes.ensures.cause

pub returns-in-Ok-clause-starts : goal.returns-in-Ok-clause-starts
returns-in-Ok-clause-starts g c = read_starts _ _ _ _ c.in-Ok.ensures.start

pub returns-in-Err-Fault-clause-refused : goal.returns-in-Err-Fault-clause-refused
returns-in-Err-Fault-clause-refused g c told =
    let over = c.args.over.now in
    let seen : c.deref.result.now ≡ c.in_ok-bytes.bytes.items = c.deref.ensures.value in
    let short = subst (λ (b : List ℕ). length b ≤ longest_image) (sym seen) c.in_ok-bytes.ensures.short in
    let is : IsReadFault (head_over over c.deref.result.now) c.deref.result.now c.in-Err-Fault.field-0 = c.in-Err-Fault.ensures.fault in
    faulty over c.deref.result.now _ (seen ∙ c.in_ok-bytes.ensures.bytes told) c.in-Err-Fault.fault short
    (subst (λ (e : ReadImage). IsReadFault (head_over over c.deref.result.now) c.deref.result.now e) c.in-Err-Fault.field-0-is is)
