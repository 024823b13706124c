use Rattle.std.proofs.Common.{List, ℕ, IsTrue, subst, ap}
use Rattle.std.specs.Prelude.{◌↔◌}
use Rattle.st_host.specs.Files.{bytes_of}
use Rattle.st_host.proofs.Joining.{reads_narrow, narrows_join, alike_join, synced_on}
use Rattle.st_host.proofs.Touching.{sync_changes, changes_join}
use Rattle.st_store.specs.Roots.{HasLetters}
use Rattle.st_store.proofs.Causes.{cause_of_call}
use Rattle.st_store.proofs.Fronts.{letters_found}
use Rattle.st_store.proofs.create.find_store.Goals as goal

pub returns-in_err-sync_file-clause-only : goal.returns-in_err-sync_file-clause-only
returns-in_err-sync_file-clause-only g c = sync_changes g.H.Host _ _ _ c.sync_file.ensures.syncs

pub returns-in_err-count-clause-narrows : goal.returns-in_err-count-clause-narrows
returns-in_err-count-clause-narrows g c = narrows_join g.H.Host _ _ _ c.sync_file.ensures.narrows (reads_narrow g.H.Host _ _ c.read_from.ensures.reads)

pub returns-in_err-count-clause-only : goal.returns-in_err-count-clause-only
returns-in_err-count-clause-only g c = changes_join g.H.Host _ _ _ _ (sync_changes g.H.Host _ _ _ c.sync_file.ensures.syncs) c.read_from.ensures.changes

pub returns-in_err-count-clause-cause : goal.returns-in_err-count-clause-cause
returns-in_err-count-clause-cause g c =
    cause_of_call (g.H.Host.disk_faults c.args.host.now) (g.H.Host.disk_faults c.sync_file.new.host) (g.H.Host.disk_faults c.read_from.new.host) c.read_from.result c.in_err-count.field-0.0 _ c.sync_file.ensures.narrows.disk c.in_err-count.was c.read_from.ensures.cause

pub returns-clause-found : goal.returns-clause-found
returns-clause-found g c told =
    let roots = c.args.roots.now in
    subst (λ (x : List ℕ). IsTrue c.is_none.result ↔ HasLetters x) (ap bytes_of (c.in_ok-sync_file.ensures.alike.same told roots))
    (letters_found (bytes_of (g.H.Host.files c.sync_file.new.host roots)) c.in_ok-count.count c.read_from.new.into c.read_from.auto.into (c.in_ok-count.ensures.read told)
    c.find_wrong_letter.result c.is_none.result c.find_wrong_letter.ensures c.is_none.ensures)

pub returns-clause-synced : goal.returns-clause-synced
returns-clause-synced g c = synced_on g.H.Host _ _ _ c.in_ok-sync_file.ensures.synced (reads_narrow g.H.Host _ _ c.read_from.ensures.reads) c.in_ok-count.ensures.alike

pub returns-clause-alike : goal.returns-clause-alike
returns-clause-alike g c = alike_join g.H.Host _ _ _ c.in_ok-sync_file.ensures.alike c.in_ok-count.ensures.alike

pub returns-clause-narrows : goal.returns-clause-narrows
returns-clause-narrows g c = narrows_join g.H.Host _ _ _ c.sync_file.ensures.narrows (reads_narrow g.H.Host _ _ c.read_from.ensures.reads)

pub returns-clause-only : goal.returns-clause-only
returns-clause-only g c = changes_join g.H.Host _ _ _ _ (sync_changes g.H.Host _ _ _ c.sync_file.ensures.syncs) c.read_from.ensures.changes
