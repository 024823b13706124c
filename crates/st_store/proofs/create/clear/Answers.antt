use Rattle.std.proofs.Common.{List, ℕ, ◌≡◌, ◌∙◌, ap, subst}
use Rattle.st_host.specs.Files.{IsCut}
use Rattle.st_host.specs.Runs.{IsSynced}
use Rattle.st_store.specs.Names.{roots_file}
use Rattle.st_store.proofs.Clearing.{clears, emptied}
use Rattle.st_store.proofs.create.clear.Goals as goal

pub returns-in_err-cut_synced-clause-moments : goal.returns-in_err-cut_synced-clause-moments
returns-in_err-cut_synced-clause-moments g c =
    (clears g.H.Host c.args.name.now _ _ _ _ _ _ _ c.in_ok-names.ensures c.roots.ensures c.roots-2.ensures c.find_store.ensures.narrows c.in_ok-there.ensures.alike c.in_ok-there.ensures.synced c.find_store.ensures.only c.in_ok-there.ensures.found c.if-there.false c.cut_synced.ensures.cuts).moments

pub returns-in_err-cut_synced-clause-only : goal.returns-in_err-cut_synced-clause-only
returns-in_err-cut_synced-clause-only g c =
    (clears g.H.Host c.args.name.now _ _ _ _ _ _ _ c.in_ok-names.ensures c.roots.ensures c.roots-2.ensures c.find_store.ensures.narrows c.in_ok-there.ensures.alike c.in_ok-there.ensures.synced c.find_store.ensures.only c.in_ok-there.ensures.found c.if-there.false c.cut_synced.ensures.cuts).only

pub returns-clause-empty : goal.returns-clause-empty
returns-clause-empty g c told =
    let H = g.H.Host in
    let is : c.roots-2.result.now ≡ roots_file c.args.name.now = c.roots-2.ensures ∙ ap roots_file c.in_ok-names.ensures in
    emptied H c.args.name.now _ _ told
    (subst (λ (x : List ℕ). IsCut 0 (H.files c.find_store.new.host x) (H.files c.cut_synced.new.host x)) is (c.in_ok-cut_synced.ensures.cut told))
    (subst (λ (x : List ℕ). IsSynced H x c.cut_synced.new.host) is c.in_ok-cut_synced.ensures.synced)

pub returns-clause-moments : goal.returns-clause-moments
returns-clause-moments g c =
    (clears g.H.Host c.args.name.now _ _ _ _ _ _ _ c.in_ok-names.ensures c.roots.ensures c.roots-2.ensures c.find_store.ensures.narrows c.in_ok-there.ensures.alike c.in_ok-there.ensures.synced c.find_store.ensures.only c.in_ok-there.ensures.found c.if-there.false c.cut_synced.ensures.cuts).moments

pub returns-clause-only : goal.returns-clause-only
returns-clause-only g c =
    (clears g.H.Host c.args.name.now _ _ _ _ _ _ _ c.in_ok-names.ensures c.roots.ensures c.roots-2.ensures c.find_store.ensures.narrows c.in_ok-there.ensures.alike c.in_ok-there.ensures.synced c.find_store.ensures.only c.in_ok-there.ensures.found c.if-there.false c.cut_synced.ensures.cuts).only
