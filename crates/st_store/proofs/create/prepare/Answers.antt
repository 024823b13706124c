use Rattle.std.proofs.Common.{ℕ, List, [], ◌∷◌, string_bytes, refl, sym, subst, ◌∙◌}
use Rattle.std.specs.Prelude.{None, Result, Ok}
use Rattle.st_host.specs.Files.{IsCut}
use Rattle.st_host.specs.Runs.{IsSynced}
use Rattle.st_host.proofs.Joining.{on_err, makes_then}
use Rattle.st_store.specs.Names.{roots_file, changes_file}
use Rattle.st_store.specs.Founding.{OpensMaybe, IsBlank}
use Rattle.st_store.proofs.Others.{changes_roots}
use Rattle.st_store.proofs.Turning.{writes_as, written_as, synced_as, synced_beside}
use Rattle.st_store.proofs.Clearing.{cuts_as, cut_empty}
use Rattle.st_store.proofs.Founding.{blank_none, blank_written, cut_makes, still_empty, prepare_makes}
use Rattle.st_store.proofs.create.prepare.Goals as goal

pub returns-in_err-cut_synced-clause-makes : goal.returns-in_err-cut_synced-clause-makes
returns-in_err-cut_synced-clause-makes g c told empty =
    cut_makes g.H.Host _ _ _ _ told (cuts_as g.H.Host _ _ 0 _ _ c.changes.ensures c.cut_synced.ensures.cuts) empty (on_err _ _ c.from_residual.ensures.0)

pub returns-clause-blank : goal.returns-clause-blank
returns-clause-blank g c told empty =
    let H = g.H.Host in
    let name = string_bytes c.args.names.now.name in
    let w = c.in_ok-write_synced.ensures in
    let still = still_empty H name _ _ c.cut_synced.result told (cuts_as H _ (changes_file name 0) 0 _ _ c.changes.ensures c.cut_synced.ensures.cuts) empty in
    let written = written_as H name _ 0 (0 ∷ []) (0 ∷ []) _ _ c.roots.ensures refl (w.written told) in
    λ x can. subst IsBlank (sym (synced_as H name _ _ c.roots.ensures told w.synced x can))
    (blank_written _ _ (still _ (g.met.H.Host.read_counts c.cut_synced.new.host (roots_file name) told)) written)

pub returns-clause-makes : goal.returns-clause-makes
returns-clause-makes g c told empty =
    let H = g.H.Host in
    let name = string_bytes c.args.names.now.name in
    let blank = returns-clause-blank g c told empty in
    prepare_makes H name _ _ _ told empty (cuts_as H _ (changes_file name 0) 0 _ _ c.changes.ensures c.cut_synced.ensures.cuts)
    (g.met.H.Host.read_counts c.cut_synced.new.host (roots_file name) told) (writes_as H name _ 0 1 1 _ _ c.roots.ensures refl c.write_synced.ensures.writes)
    _ (record { opens_as = λ f can. blank_none (f (roots_file name)) (blank (f (roots_file name)) (can (roots_file name))) })

pub returns-in_err-write_synced-clause-makes : goal.returns-in_err-write_synced-clause-makes
returns-in_err-write_synced-clause-makes g c told empty =
    let H = g.H.Host in
    let name = string_bytes c.args.names.now.name in
    prepare_makes H name _ _ _ told empty (cuts_as H _ (changes_file name 0) 0 _ _ c.changes.ensures c.cut_synced.ensures.cuts)
    (g.met.H.Host.read_counts c.cut_synced.new.host (roots_file name) told) (writes_as H name _ 0 1 1 _ _ c.roots.ensures refl c.write_synced.ensures.writes)
    _ (on_err _ _ c.from_residual-in_err-write_synced.ensures.0)

pub returns-clause-emptied : goal.returns-clause-emptied
returns-clause-emptied g c told =
    let H = g.H.Host in
    let name = string_bytes c.args.names.now.name in
    let writes = writes_as H name _ 0 1 1 _ _ c.roots.ensures refl c.write_synced.ensures.writes in
    let cut = subst (λ (x : List ℕ). IsCut 0 (H.files c.args.host.now x) (H.files c.cut_synced.new.host x)) c.changes.ensures (c.in_ok-cut_synced.ensures.cut told) in
    (writes.run.others told).files (changes_file name 0) (changes_roots name 0) ∙ cut_empty _ _ cut

pub returns-clause-synced : goal.returns-clause-synced
returns-clause-synced g c =
    let H = g.H.Host in
    let name = string_bytes c.args.names.now.name in
    let writes = writes_as H name _ 0 1 1 _ _ c.roots.ensures refl c.write_synced.ensures.writes in
    synced_beside H name (changes_file name 0) c.cut_synced.new.host c.write_synced.new.host (changes_roots name 0) writes.run.others
    (subst (λ (x : List ℕ). IsSynced H x c.cut_synced.new.host) c.changes.ensures c.in_ok-cut_synced.ensures.synced)
