use Rattle.std.proofs.Common.{◌⊎◌, inl, inr, List, ℕ, string_bytes, refl, subst}
use Rattle.std.proofs.lemmas.Result.{err_from_is_err_and}
use Rattle.st_host.specs.Runs.{NarrowsBut, Spares, Syncs, IsSynced}
use Rattle.st_store.specs.Names.{roots_file, IsNoFileOf}
use Rattle.st_store.specs.Roots.{IsFresh}
use Rattle.st_store.specs.Stored.{Opens, IsChosen, stored_in}
use Rattle.st_store.specs.Faults.{SyncsFirst}
use Rattle.st_store.proofs.Opening.{refusal_is_of_files, as_before, narrows_none, only_looked, read_opens, but_roots, spared_on, opened_as}
use Rattle.st_store.proofs.Settling.{when_err, syncs_none, settles_looked, settles_as, settled_maybe}
use Rattle.st_store.proofs.open.open_store.Goals as goal

pub returns-in_err-names-clause-as_before : goal.returns-in_err-names-clause-as_before
returns-in_err-names-clause-as_before g c told ready =
    let H = g.H.Host in
    let a = c.args.host.now in
    as_before H _ _ _ (λ n. g.met.H.Host.read_counts a n told) ready (only_looked H _ _ _ told (narrows_none H c.args.name.now a (λ told f s left. g.met.H.Host.only_now a f s told left)))

pub returns-in_err-names-clause-settles : goal.returns-in_err-names-clause-settles
returns-in_err-names-clause-settles g c = when_err c.from_residual.result _
    (λ told ready. inl (syncs_none g.H.Host _ c.args.host.now (λ told f s left. g.met.H.Host.only_now c.args.host.now f s told left)))

pub returns-in_err-chosen-clause-as_before : goal.returns-in_err-chosen-clause-as_before
returns-in_err-chosen-clause-as_before g c told ready =
    as_before g.H.Host _ _ _ (λ n. g.met.H.Host.read_counts c.args.host.now n told) ready (only_looked g.H.Host _ _ _ told c.seek.ensures.narrows)

pub returns-in_err-chosen-clause-settles : goal.returns-in_err-chosen-clause-settles
returns-in_err-chosen-clause-settles g c = when_err c.from_residual-in_err-chosen.result _
    (λ told ready. settles_looked g.H.Host _ _ _ told ready (λ h. g.met.H.Host.read_counts h (roots_file c.args.name.now) told)
    (subst (λ (y : List ℕ). Syncs g.H.Host (roots_file y) c.args.host.now c.seek.new.host ⊎ SyncsFirst g.H.Host (roots_file y) c.args.host.now c.seek.new.host) c.in_ok-names.ensures c.in_err-chosen.ensures.tried))

pub returns-in_err-freshen-clause-moments : goal.returns-in_err-freshen-clause-moments
returns-in_err-freshen-clause-moments g c told =
    let sought = c.in_ok-chosen.ensures in
    opened_as g.H.Host _ _ _ _ _ _ c.in_ok-chosen.chosen.number c.freshen.result c.in_ok-names.ensures told c.seek.ensures.narrows sought.alike
    (λ j. g.met.H.Host.read_counts c.seek.new.host j told) (sought.chosen told) (c.freshen.ensures.makes _ told (sought.chosen told) refl)

pub returns-in_err-freshen-clause-as_before : goal.returns-in_err-freshen-clause-as_before
returns-in_err-freshen-clause-as_before g c told ready =
    as_before g.H.Host _ _ _ (λ n. g.met.H.Host.read_counts c.args.host.now n told) ready (returns-in_err-freshen-clause-moments g c told)

pub returns-in_err-freshen-clause-settles : goal.returns-in_err-freshen-clause-settles
returns-in_err-freshen-clause-settles g c = when_err c.from_residual-in_err-freshen.result _
    (λ told ready. let sought = c.in_ok-chosen.ensures in
    inr (settled_maybe g.H.Host _ _ _
    (settles_as g.H.Host _ _ _ _ told c.in_ok-chosen.chosen.number _ _ c.freshen.result c.in_ok-names.ensures ready (λ h j. g.met.H.Host.read_counts h j told)
    sought.first (sought.chosen told) (c.freshen.ensures.makes _ told (sought.chosen told) refl))))

pub returns-in_err-freshen-clause-only : goal.returns-in_err-freshen-clause-only
returns-in_err-freshen-clause-only g c = subst (λ (y : List ℕ). NarrowsBut g.H.Host (roots_file y) c.args.host.now c.freshen.new.host) c.in_ok-names.ensures
    (but_roots g.H.Host _ _ _ _ c.seek.ensures.narrows c.freshen.ensures.changes)

pub returns-in_err-freshen-clause-spares : goal.returns-in_err-freshen-clause-spares
returns-in_err-freshen-clause-spares g c = subst (λ (y : List ℕ). Spares g.H.Host (IsNoFileOf y) c.args.host.now c.freshen.new.host) c.in_ok-names.ensures
    (spared_on g.H.Host _ _ _ _ c.seek.ensures.spares c.freshen.ensures.changes)

pub returns-clause-opens : goal.returns-clause-opens
returns-clause-opens g c told = subst (λ (y : List ℕ). Opens y (stored_in y (g.H.Host.files c.args.host.now) c.in_ok-chosen.chosen.root) (g.H.Host.files c.args.host.now)) c.in_ok-names.ensures
    (read_opens g.H.Host _ _ _ _ c.in_ok-chosen.chosen.number told c.in_ok-chosen.ensures.alike (λ j. g.met.H.Host.read_counts c.seek.new.host j told) (c.in_ok-chosen.ensures.chosen told))

pub returns-clause-kept : goal.returns-clause-kept
returns-clause-kept g c told = record {
  root = refl;
  is = subst (λ (y : List ℕ). IsChosen g.H.Host c.freshen.new.host (string_bytes c.in_ok-names.names.name) c.in_ok-chosen.chosen.number (stored_in y (g.H.Host.files c.args.host.now) c.in_ok-chosen.chosen.root)) c.in_ok-names.ensures
      (c.in_ok-freshen.ensures.chosen _ told (c.in_ok-chosen.ensures.chosen told) refl);
}

pub returns-clause-fresh : goal.returns-clause-fresh
returns-clause-fresh g c told = subst (λ (y : List ℕ). IsFresh c.in_ok-chosen.chosen.number c.in_ok-chosen.chosen.root (g.H.Host.files c.freshen.new.host (roots_file y))) c.in_ok-names.ensures
    (c.in_ok-freshen.ensures.fresh _ told (c.in_ok-chosen.ensures.chosen told) refl)

pub returns-clause-moments : goal.returns-clause-moments
returns-clause-moments g c told =
    let sought = c.in_ok-chosen.ensures in
    opened_as g.H.Host _ _ _ _ _ _ c.in_ok-chosen.chosen.number c.freshen.result c.in_ok-names.ensures told c.seek.ensures.narrows sought.alike
    (λ j. g.met.H.Host.read_counts c.seek.new.host j told) (sought.chosen told) (c.freshen.ensures.makes _ told (sought.chosen told) refl)

pub returns-clause-as_before : goal.returns-clause-as_before
returns-clause-as_before g c told ready =
    as_before g.H.Host _ _ _ (λ n. g.met.H.Host.read_counts c.args.host.now n told) ready (returns-clause-moments g c told)

pub returns-clause-settled : goal.returns-clause-settled
returns-clause-settled g c told ready =
    let sought = c.in_ok-chosen.ensures in
    settles_as g.H.Host _ _ _ _ told c.in_ok-chosen.chosen.number _ _ c.freshen.result c.in_ok-names.ensures ready (λ h j. g.met.H.Host.read_counts h j told)
    sought.first (sought.chosen told) (c.freshen.ensures.makes _ told (sought.chosen told) refl)

pub returns-clause-only : goal.returns-clause-only
returns-clause-only g c = subst (λ (y : List ℕ). NarrowsBut g.H.Host (roots_file y) c.args.host.now c.freshen.new.host) c.in_ok-names.ensures
    (but_roots g.H.Host _ _ _ _ c.seek.ensures.narrows c.freshen.ensures.changes)

pub returns-clause-spares : goal.returns-clause-spares
returns-clause-spares g c = subst (λ (y : List ℕ). Spares g.H.Host (IsNoFileOf y) c.args.host.now c.freshen.new.host) c.in_ok-names.ensures
    (spared_on g.H.Host _ _ _ _ c.seek.ensures.spares c.freshen.ensures.changes)

pub returns-in_err-chosen-clause-synced : goal.returns-in_err-chosen-clause-synced
returns-in_err-chosen-clause-synced g c =
    let p = err_from_is_err_and c.from_residual-in_err-chosen.result c.from_residual-in_err-chosen.ensures.1 in
    rw (p.1, p.2) (λ is. subst (λ (y : List ℕ). IsSynced g.H.Host (roots_file y) c.seek.new.host) c.in_ok-names.ensures
    (c.in_err-chosen.ensures.synced (refusal_is_of_files c.in_err-chosen.field-0.0 is)))
