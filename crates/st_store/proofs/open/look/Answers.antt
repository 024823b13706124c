use Rattle.std.proofs.Common.{◌≡◌, ◌∙◌, inr, List, ℕ, Option, IsSome, sym, ap, subst, arith}
use Rattle.std.specs.Prelude.{not}
use Rattle.st_host.specs.Files.{bytes_of}
use Rattle.st_host.proofs.Joining.{reads_narrow, narrows_join, alike_join, synced_on}
use Rattle.st_host.proofs.Touching.{sync_changes}
use Rattle.st_store.specs.Refusals.{RefusesFront}
use Rattle.st_store.specs.declared.fault.StoreFault.{StoreFault}
use Rattle.st_store.specs.declared.fault.StoreFault.TheVariants.{NotAStore}
use Rattle.st_store.specs.declared.fault.StorePlace.TheVariants.{Roots}
use Rattle.st_store.proofs.Causes.{fault_of_call}
use Rattle.st_store.proofs.Fronts.{is_there, chooses_front, wrong_front}
use Rattle.st_store.proofs.Looking.{looks_at, looks_on}
use Rattle.st_store.proofs.Settling.{when_err}
use Rattle.st_store.proofs.open.look.Goals as goal

pub returns-in_err-sync_file-clause-only : goal.returns-in_err-sync_file-clause-only
returns-in_err-sync_file-clause-only g c = sync_changes g.H.Host _ _ _ c.sync_file.ensures.syncs

pub returns-in_err-sync_file-clause-cause : goal.returns-in_err-sync_file-clause-cause
returns-in_err-sync_file-clause-cause g c =
    fault_of_call (g.H.Host.disk_faults c.args.host.now) (g.H.Host.disk_faults c.args.host.now) (g.H.Host.disk_faults c.sync_file.new.host) c.sync_file.result c.in_err-sync_file.field-0.0 _ (omega arith) c.in_err-sync_file.was c.sync_file.ensures.cause

pub returns-in_err-length-clause-tried : goal.returns-in_err-length-clause-tried
returns-in_err-length-clause-tried g c = when_err _ _ (inr (looks_at g.H.Host _ _ _ _ c.sync_file.ensures.narrows c.sync_file.ensures.syncs c.in_ok-sync_file.ensures.synced c.file_length.ensures.reads c.file_length.ensures.changes).first)

pub returns-in_err-length-clause-narrows : goal.returns-in_err-length-clause-narrows
returns-in_err-length-clause-narrows g c = (looks_at g.H.Host _ _ _ _ c.sync_file.ensures.narrows c.sync_file.ensures.syncs c.in_ok-sync_file.ensures.synced c.file_length.ensures.reads c.file_length.ensures.changes).narrows

pub returns-in_err-length-clause-only : goal.returns-in_err-length-clause-only
returns-in_err-length-clause-only g c = (looks_at g.H.Host _ _ _ _ c.sync_file.ensures.narrows c.sync_file.ensures.syncs c.in_ok-sync_file.ensures.synced c.file_length.ensures.reads c.file_length.ensures.changes).only

pub returns-in_err-length-clause-cause : goal.returns-in_err-length-clause-cause
returns-in_err-length-clause-cause g c =
    fault_of_call (g.H.Host.disk_faults c.args.host.now) (g.H.Host.disk_faults c.sync_file.new.host) (g.H.Host.disk_faults c.file_length.new.host) c.file_length.result c.in_err-length.field-0.0 _ c.sync_file.ensures.narrows.disk c.in_err-length.was c.file_length.ensures.cause

pub returns-then-is_none-clause-tried : goal.returns-then-is_none-clause-tried
returns-then-is_none-clause-tried g c = inr (looks_at g.H.Host _ _ _ _ c.sync_file.ensures.narrows c.sync_file.ensures.syncs c.in_ok-sync_file.ensures.synced c.file_length.ensures.reads c.file_length.ensures.changes).first

pub returns-then-is_none-clause-narrows : goal.returns-then-is_none-clause-narrows
returns-then-is_none-clause-narrows g c = (looks_at g.H.Host _ _ _ _ c.sync_file.ensures.narrows c.sync_file.ensures.syncs c.in_ok-sync_file.ensures.synced c.file_length.ensures.reads c.file_length.ensures.changes).narrows

pub returns-then-is_none-clause-only : goal.returns-then-is_none-clause-only
returns-then-is_none-clause-only g c = (looks_at g.H.Host _ _ _ _ c.sync_file.ensures.narrows c.sync_file.ensures.syncs c.in_ok-sync_file.ensures.synced c.file_length.ensures.reads c.file_length.ensures.changes).only

pub returns-in_err-count-clause-tried : goal.returns-in_err-count-clause-tried
returns-in_err-count-clause-tried g c = when_err _ _ (inr (looks_on g.H.Host _ _ _ _ (looks_at g.H.Host _ _ _ _ c.sync_file.ensures.narrows c.sync_file.ensures.syncs c.in_ok-sync_file.ensures.synced c.file_length.ensures.reads c.file_length.ensures.changes) c.read_from.ensures.reads c.read_from.ensures.changes).first)

pub returns-in_err-count-clause-narrows : goal.returns-in_err-count-clause-narrows
returns-in_err-count-clause-narrows g c = (looks_on g.H.Host _ _ _ _ (looks_at g.H.Host _ _ _ _ c.sync_file.ensures.narrows c.sync_file.ensures.syncs c.in_ok-sync_file.ensures.synced c.file_length.ensures.reads c.file_length.ensures.changes) c.read_from.ensures.reads c.read_from.ensures.changes).narrows

pub returns-in_err-count-clause-only : goal.returns-in_err-count-clause-only
returns-in_err-count-clause-only g c = (looks_on g.H.Host _ _ _ _ (looks_at g.H.Host _ _ _ _ c.sync_file.ensures.narrows c.sync_file.ensures.syncs c.in_ok-sync_file.ensures.synced c.file_length.ensures.reads c.file_length.ensures.changes) c.read_from.ensures.reads c.read_from.ensures.changes).only

pub returns-in_err-count-clause-cause : goal.returns-in_err-count-clause-cause
returns-in_err-count-clause-cause g c =
    fault_of_call (g.H.Host.disk_faults c.args.host.now) (g.H.Host.disk_faults c.file_length.new.host) (g.H.Host.disk_faults c.read_from.new.host) c.read_from.result c.in_err-count.field-0.0 _ (omega arith) c.in_err-count.was c.read_from.ensures.cause

pub returns-in-Ok-clause-chooses : goal.returns-in-Ok-clause-chooses
returns-in-Ok-clause-chooses g c told =
    let roots = c.args.roots.now in
    let file = g.H.Host.files c.file_length.new.host roots in
    let is : file ≡ g.H.Host.files c.args.host.now roots = c.in_ok-length.ensures.alike.same told roots ∙ c.in_ok-sync_file.ensures.alike.same told roots in
    chooses_front (bytes_of file) c.in_ok-count.count c.read_from.new.into (c.read_from.auto.into) (c.in_ok-count.ensures.read told)
    c.in-Ok.chosen.number c.in-Ok.chosen.root _ (sym (ap bytes_of is)) c.in-Ok.ensures.number c.in-Ok.ensures.chooses

pub returns-in-Ok-clause-synced : goal.returns-in-Ok-clause-synced
returns-in-Ok-clause-synced g c =
    let H = g.H.Host in
    synced_on H _ _ _ c.in_ok-sync_file.ensures.synced (narrows_join H _ _ _ (reads_narrow H _ _ c.file_length.ensures.reads) (reads_narrow H _ _ c.read_from.ensures.reads))
    (alike_join H _ _ _ c.in_ok-length.ensures.alike c.in_ok-count.ensures.alike)

pub returns-in-Ok-clause-first : goal.returns-in-Ok-clause-first
returns-in-Ok-clause-first g c = (looks_on g.H.Host _ _ _ _ (looks_at g.H.Host _ _ _ _ c.sync_file.ensures.narrows c.sync_file.ensures.syncs c.in_ok-sync_file.ensures.synced c.file_length.ensures.reads c.file_length.ensures.changes) c.read_from.ensures.reads c.read_from.ensures.changes).first

pub returns-in-Ok-clause-alike : goal.returns-in-Ok-clause-alike
returns-in-Ok-clause-alike g c = alike_join g.H.Host _ _ _ (alike_join g.H.Host _ _ _ c.in_ok-sync_file.ensures.alike c.in_ok-length.ensures.alike) c.in_ok-count.ensures.alike

pub returns-in-Ok-clause-narrows : goal.returns-in-Ok-clause-narrows
returns-in-Ok-clause-narrows g c = (looks_on g.H.Host _ _ _ _ (looks_at g.H.Host _ _ _ _ c.sync_file.ensures.narrows c.sync_file.ensures.syncs c.in_ok-sync_file.ensures.synced c.file_length.ensures.reads c.file_length.ensures.changes) c.read_from.ensures.reads c.read_from.ensures.changes).narrows

pub returns-in-Ok-clause-only : goal.returns-in-Ok-clause-only
returns-in-Ok-clause-only g c = (looks_on g.H.Host _ _ _ _ (looks_at g.H.Host _ _ _ _ c.sync_file.ensures.narrows c.sync_file.ensures.syncs c.in_ok-sync_file.ensures.synced c.file_length.ensures.reads c.file_length.ensures.changes) c.read_from.ensures.reads c.read_from.ensures.changes).only

pub returns-in-Err-clause-refused : goal.returns-in-Err-clause-refused
returns-in-Err-clause-refused g c told =
    let H = g.H.Host in
    let roots = c.args.roots.now in
    let file = H.files c.file_length.new.host roots in
    let is : file ≡ H.files c.args.host.now roots = c.in_ok-length.ensures.alike.same told roots ∙ c.in_ok-sync_file.ensures.alike.same told roots in
    let some : IsSome c.in_ok-length.length = c.is_none.ensures ∙ ap not c.if-is_none.false in
    let there : IsSome file = subst (λ (x : Option (List ℕ)). IsSome x) (sym (c.in_ok-length.ensures.alike.same told roots))
    (is_there c.in_ok-length.length (H.files c.sync_file.new.host roots) (c.in_ok-length.ensures.length told) some) in
    subst (λ (f : StoreFault). RefusesFront (H.files c.args.host.now roots) f) (sym c.damaged.ensures)
    (subst (λ (x : Option (List ℕ)). RefusesFront x (NotAStore (Roots c.in-Err.at))) is
    (there, wrong_front (bytes_of file) c.in_ok-count.count c.read_from.new.into (c.read_from.auto.into) (c.in_ok-count.ensures.read told) c.in-Err.at c.in-Err.ensures.wrong))

pub returns-in-Err-clause-tried : goal.returns-in-Err-clause-tried
returns-in-Err-clause-tried g c = inr (looks_on g.H.Host _ _ _ _ (looks_at g.H.Host _ _ _ _ c.sync_file.ensures.narrows c.sync_file.ensures.syncs c.in_ok-sync_file.ensures.synced c.file_length.ensures.reads c.file_length.ensures.changes) c.read_from.ensures.reads c.read_from.ensures.changes).first

pub returns-in-Err-clause-narrows : goal.returns-in-Err-clause-narrows
returns-in-Err-clause-narrows g c = (looks_on g.H.Host _ _ _ _ (looks_at g.H.Host _ _ _ _ c.sync_file.ensures.narrows c.sync_file.ensures.syncs c.in_ok-sync_file.ensures.synced c.file_length.ensures.reads c.file_length.ensures.changes) c.read_from.ensures.reads c.read_from.ensures.changes).narrows

pub returns-in-Err-clause-only : goal.returns-in-Err-clause-only
returns-in-Err-clause-only g c = (looks_on g.H.Host _ _ _ _ (looks_at g.H.Host _ _ _ _ c.sync_file.ensures.narrows c.sync_file.ensures.syncs c.in_ok-sync_file.ensures.synced c.file_length.ensures.reads c.file_length.ensures.changes) c.read_from.ensures.reads c.read_from.ensures.changes).only

pub returns-then-is_none-clause-firm : goal.returns-then-is_none-clause-firm
returns-then-is_none-clause-firm g c calm = synced_on g.H.Host _ _ _ c.in_ok-sync_file.ensures.synced (reads_narrow g.H.Host _ _ c.file_length.ensures.reads) c.in_ok-length.ensures.alike

pub returns-in-Err-clause-firm : goal.returns-in-Err-clause-firm
returns-in-Err-clause-firm g c calm =
    let H = g.H.Host in
    synced_on H _ _ _ c.in_ok-sync_file.ensures.synced (narrows_join H _ _ _ (reads_narrow H _ _ c.file_length.ensures.reads) (reads_narrow H _ _ c.read_from.ensures.reads))
    (alike_join H _ _ _ c.in_ok-length.ensures.alike c.in_ok-count.ensures.alike)
