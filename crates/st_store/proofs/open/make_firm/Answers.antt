use Rattle.std.proofs.Common.{ℕ, ◌∙◌, sym, subst, length, arith}
use Rattle.st_host.proofs.Joining.{reads_narrow, narrows_join, alike_join, synced_on}
use Rattle.st_host.proofs.Touching.{sync_changes, changes_spare}
use Rattle.st_host.specs.Files.{bytes_of}
use Rattle.st_store.specs.Refusals.{Fit, IsWrongNumber, RefusesNumbers}
use Rattle.st_store.specs.declared.fault.StoreFault.{StoreFault}
use Rattle.st_store.proofs.Causes.{fault_of_call}
use Rattle.st_store.proofs.Fronts.{length_read}
use Rattle.st_store.proofs.Looking.{syncs_both, both_read}
use Rattle.st_store.proofs.open.make_firm.Goals as goal

pub returns-in_err-sync_file-clause-spares : goal.returns-in_err-sync_file-clause-spares
returns-in_err-sync_file-clause-spares g c = changes_spare g.H.Host _ _ _ _ (λ n other. other.0) (sync_changes g.H.Host _ _ _ c.sync_file.ensures.syncs)

pub returns-in_err-sync_file-clause-cause : goal.returns-in_err-sync_file-clause-cause
returns-in_err-sync_file-clause-cause g c =
    fault_of_call (g.H.Host.disk_faults c.args.host.now) (g.H.Host.disk_faults c.args.host.now) (g.H.Host.disk_faults c.sync_file.new.host) c.sync_file.result c.in_err-sync_file.field-0.0 _ (omega arith) c.in_err-sync_file.was c.sync_file.ensures.cause

pub returns-in_err-sync_file-2-clause-narrows : goal.returns-in_err-sync_file-2-clause-narrows
returns-in_err-sync_file-2-clause-narrows g c = (syncs_both g.H.Host _ _ _ _ _ c.sync_file.ensures.narrows c.sync_file.ensures.syncs c.sync_file-2.ensures.narrows c.sync_file-2.ensures.syncs).narrows

pub returns-in_err-sync_file-2-clause-spares : goal.returns-in_err-sync_file-2-clause-spares
returns-in_err-sync_file-2-clause-spares g c = (syncs_both g.H.Host _ _ _ _ _ c.sync_file.ensures.narrows c.sync_file.ensures.syncs c.sync_file-2.ensures.narrows c.sync_file-2.ensures.syncs).spares

pub returns-in_err-sync_file-2-clause-cause : goal.returns-in_err-sync_file-2-clause-cause
returns-in_err-sync_file-2-clause-cause g c =
    fault_of_call (g.H.Host.disk_faults c.args.host.now) (g.H.Host.disk_faults c.sync_file.new.host) (g.H.Host.disk_faults c.sync_file-2.new.host) c.sync_file-2.result c.in_err-sync_file-2.field-0.0 _ c.sync_file.ensures.narrows.disk c.in_err-sync_file-2.was c.sync_file-2.ensures.cause

pub returns-in_err-file_length-clause-narrows : goal.returns-in_err-file_length-clause-narrows
returns-in_err-file_length-clause-narrows g c = (both_read g.H.Host _ _ _ _ _ _ (λ n other. other.0) (syncs_both g.H.Host _ _ _ _ _ c.sync_file.ensures.narrows c.sync_file.ensures.syncs c.sync_file-2.ensures.narrows c.sync_file-2.ensures.syncs) c.file_length.ensures.reads c.file_length.ensures.changes).narrows

pub returns-in_err-file_length-clause-spares : goal.returns-in_err-file_length-clause-spares
returns-in_err-file_length-clause-spares g c = (both_read g.H.Host _ _ _ _ _ _ (λ n other. other.0) (syncs_both g.H.Host _ _ _ _ _ c.sync_file.ensures.narrows c.sync_file.ensures.syncs c.sync_file-2.ensures.narrows c.sync_file-2.ensures.syncs) c.file_length.ensures.reads c.file_length.ensures.changes).spares

pub returns-in_err-file_length-clause-cause : goal.returns-in_err-file_length-clause-cause
returns-in_err-file_length-clause-cause g c =
    fault_of_call (g.H.Host.disk_faults c.args.host.now) (g.H.Host.disk_faults c.sync_file-2.new.host) (g.H.Host.disk_faults c.file_length.new.host) c.file_length.result c.in_err-file_length.field-0.0 _ (omega arith) c.in_err-file_length.was c.file_length.ensures.cause

pub returns-in_err-file_length-2-clause-narrows : goal.returns-in_err-file_length-2-clause-narrows
returns-in_err-file_length-2-clause-narrows g c = (both_read g.H.Host _ _ _ _ _ _ (λ n other. other.1) (both_read g.H.Host _ _ _ _ _ _ (λ n other. other.0) (syncs_both g.H.Host _ _ _ _ _ c.sync_file.ensures.narrows c.sync_file.ensures.syncs c.sync_file-2.ensures.narrows c.sync_file-2.ensures.syncs) c.file_length.ensures.reads c.file_length.ensures.changes) c.file_length-2.ensures.reads c.file_length-2.ensures.changes).narrows

pub returns-in_err-file_length-2-clause-spares : goal.returns-in_err-file_length-2-clause-spares
returns-in_err-file_length-2-clause-spares g c = (both_read g.H.Host _ _ _ _ _ _ (λ n other. other.1) (both_read g.H.Host _ _ _ _ _ _ (λ n other. other.0) (syncs_both g.H.Host _ _ _ _ _ c.sync_file.ensures.narrows c.sync_file.ensures.syncs c.sync_file-2.ensures.narrows c.sync_file-2.ensures.syncs) c.file_length.ensures.reads c.file_length.ensures.changes) c.file_length-2.ensures.reads c.file_length-2.ensures.changes).spares

pub returns-in_err-file_length-2-clause-cause : goal.returns-in_err-file_length-2-clause-cause
returns-in_err-file_length-2-clause-cause g c =
    fault_of_call (g.H.Host.disk_faults c.args.host.now) (g.H.Host.disk_faults c.file_length.new.host) (g.H.Host.disk_faults c.file_length-2.new.host) c.file_length-2.result c.in_err-file_length-2.field-0.0 _ (omega arith) c.in_err-file_length-2.was c.file_length-2.ensures.cause

pub returns-in-Some-clause-refused : goal.returns-in-Some-clause-refused
returns-in-Some-clause-refused g c told =
    let H = g.H.Host in
    let a = c.args.host.now in
    let number = c.args.chosen.now.number in
    let root = c.args.chosen.now.root in
    let image = c.unwrap_or-image_length.ensures ∙ length_read _ _ _ (c.in_ok-file_length.ensures.length told) (c.in_ok-sync_file-2.ensures.alike.same told _ ∙ c.in_ok-sync_file.ensures.alike.same told _) in
    let changes = c.unwrap_or-length.ensures ∙ length_read _ _ _ (c.in_ok-file_length-2.ensures.length told)
    (c.in_ok-file_length.ensures.alike.same told _ ∙ (c.in_ok-sync_file-2.ensures.alike.same told _ ∙ c.in_ok-sync_file.ensures.alike.same told _)) in
    subst (λ (f : StoreFault). RefusesNumbers number root (length (bytes_of (H.files a c.args.image.now))) (length (bytes_of (H.files a c.args.changes.now))) f) (sym c.damaged.ensures)
    (subst (λ (x : ℕ). IsWrongNumber number root x (length (bytes_of (H.files a c.args.changes.now))) c.in-Some.at) image
    (subst (λ (x : ℕ). IsWrongNumber number root c.unwrap_or-image_length.result x c.in-Some.at) changes c.in-Some.ensures))

pub returns-in-Some-clause-narrows : goal.returns-in-Some-clause-narrows
returns-in-Some-clause-narrows g c = (both_read g.H.Host _ _ _ _ _ _ (λ n other. other.1) (both_read g.H.Host _ _ _ _ _ _ (λ n other. other.0) (syncs_both g.H.Host _ _ _ _ _ c.sync_file.ensures.narrows c.sync_file.ensures.syncs c.sync_file-2.ensures.narrows c.sync_file-2.ensures.syncs) c.file_length.ensures.reads c.file_length.ensures.changes) c.file_length-2.ensures.reads c.file_length-2.ensures.changes).narrows

pub returns-in-Some-clause-spares : goal.returns-in-Some-clause-spares
returns-in-Some-clause-spares g c = (both_read g.H.Host _ _ _ _ _ _ (λ n other. other.1) (both_read g.H.Host _ _ _ _ _ _ (λ n other. other.0) (syncs_both g.H.Host _ _ _ _ _ c.sync_file.ensures.narrows c.sync_file.ensures.syncs c.sync_file-2.ensures.narrows c.sync_file-2.ensures.syncs) c.file_length.ensures.reads c.file_length.ensures.changes) c.file_length-2.ensures.reads c.file_length-2.ensures.changes).spares

pub returns-in-None-clause-fit : goal.returns-in-None-clause-fit
returns-in-None-clause-fit g c told =
    let image = c.unwrap_or-image_length.ensures ∙ length_read _ _ _ (c.in_ok-file_length.ensures.length told) (c.in_ok-sync_file-2.ensures.alike.same told _ ∙ c.in_ok-sync_file.ensures.alike.same told _) in
    let changes = c.unwrap_or-length.ensures ∙ length_read _ _ _ (c.in_ok-file_length-2.ensures.length told)
    (c.in_ok-file_length.ensures.alike.same told _ ∙ (c.in_ok-sync_file-2.ensures.alike.same told _ ∙ c.in_ok-sync_file.ensures.alike.same told _)) in
    subst (λ (x : ℕ). Fit c.args.chosen.now.root x (length (bytes_of (g.H.Host.files c.args.host.now c.args.changes.now)))) image
    (subst (λ (x : ℕ). Fit c.args.chosen.now.root c.unwrap_or-image_length.result x) changes c.in-None.ensures)

pub returns-in-None-clause-image : goal.returns-in-None-clause-image
returns-in-None-clause-image g c =
    let H = g.H.Host in
    synced_on H _ _ _ c.in_ok-sync_file.ensures.synced
    (narrows_join H _ _ _ c.sync_file-2.ensures.narrows (narrows_join H _ _ _ (reads_narrow H _ _ c.file_length.ensures.reads) (reads_narrow H _ _ c.file_length-2.ensures.reads)))
    (alike_join H _ _ _ c.in_ok-sync_file-2.ensures.alike (alike_join H _ _ _ c.in_ok-file_length.ensures.alike c.in_ok-file_length-2.ensures.alike))

pub returns-in-None-clause-changes : goal.returns-in-None-clause-changes
returns-in-None-clause-changes g c =
    let H = g.H.Host in
    synced_on H _ _ _ c.in_ok-sync_file-2.ensures.synced (narrows_join H _ _ _ (reads_narrow H _ _ c.file_length.ensures.reads) (reads_narrow H _ _ c.file_length-2.ensures.reads))
    (alike_join H _ _ _ c.in_ok-file_length.ensures.alike c.in_ok-file_length-2.ensures.alike)

pub returns-in-None-clause-alike : goal.returns-in-None-clause-alike
returns-in-None-clause-alike g c =
    let H = g.H.Host in
    alike_join H _ _ _ (alike_join H _ _ _ c.in_ok-sync_file.ensures.alike c.in_ok-sync_file-2.ensures.alike)
    (alike_join H _ _ _ c.in_ok-file_length.ensures.alike c.in_ok-file_length-2.ensures.alike)

pub returns-in-None-clause-narrows : goal.returns-in-None-clause-narrows
returns-in-None-clause-narrows g c = (both_read g.H.Host _ _ _ _ _ _ (λ n other. other.1) (both_read g.H.Host _ _ _ _ _ _ (λ n other. other.0) (syncs_both g.H.Host _ _ _ _ _ c.sync_file.ensures.narrows c.sync_file.ensures.syncs c.sync_file-2.ensures.narrows c.sync_file-2.ensures.syncs) c.file_length.ensures.reads c.file_length.ensures.changes) c.file_length-2.ensures.reads c.file_length-2.ensures.changes).narrows

pub returns-in-None-clause-spares : goal.returns-in-None-clause-spares
returns-in-None-clause-spares g c = (both_read g.H.Host _ _ _ _ _ _ (λ n other. other.1) (both_read g.H.Host _ _ _ _ _ _ (λ n other. other.0) (syncs_both g.H.Host _ _ _ _ _ c.sync_file.ensures.narrows c.sync_file.ensures.syncs c.sync_file-2.ensures.narrows c.sync_file-2.ensures.syncs) c.file_length.ensures.reads c.file_length.ensures.changes) c.file_length-2.ensures.reads c.file_length-2.ensures.changes).spares
