use Rattle.std.proofs.lemmas.Result.{err_from_is_err_and}
use Rattle.std.proofs.Common.{◌∙◌, ◌⊎◌, inr, List, ℕ, string_bytes, sym, subst}
use Rattle.st_host.specs.Runs.{Syncs, IsSynced}
use Rattle.st_host.proofs.Joining.{alike_join, narrows_join}
use Rattle.st_host.proofs.Touching.{changes_spare}
use Rattle.st_store.specs.Refusals.{RefusesFront}
use Rattle.st_store.specs.Faults.{SyncsFirst}
use Rattle.st_store.proofs.Opening.{looked_at, front_refuses, refused_at, spared, still_synced}
use Rattle.st_store.proofs.Others.{changes_roots, image_roots}
use Rattle.st_store.proofs.Settling.{when_err, first_more}
use Rattle.st_store.proofs.open.seek.Goals as goal

pub returns-in_err-chosen-clause-refused : goal.returns-in_err-chosen-clause-refused
returns-in_err-chosen-clause-refused g c =
    let fault = c.in_err-chosen.field-0.0 in
    let p = err_from_is_err_and c.from_residual.result c.from_residual.ensures.1 in
    rw (p.1, p.2) (λ told. front_refuses (string_bytes c.args.names.now.name) (g.H.Host.files c.args.host.now) fault
    (subst (λ (x : List ℕ). RefusesFront (g.H.Host.files c.args.host.now x) fault) c.roots.ensures (c.in_err-chosen.ensures.refused told)))

pub returns-in_err-chosen-clause-tried : goal.returns-in_err-chosen-clause-tried
returns-in_err-chosen-clause-tried g c = when_err _ _
    (subst (λ (y : List ℕ). Syncs g.H.Host y c.args.host.now c.look.new.host ⊎ SyncsFirst g.H.Host y c.args.host.now c.look.new.host) c.roots.ensures c.in_err-chosen.ensures.tried)

pub returns-in_err-chosen-clause-spares : goal.returns-in_err-chosen-clause-spares
returns-in_err-chosen-clause-spares g c = changes_spare g.H.Host _ _ _ _ (λ n no same. no.roots (same ∙ c.roots.ensures)) c.look.ensures.only

pub returns-in_err-make_firm-clause-refused : goal.returns-in_err-make_firm-clause-refused
returns-in_err-make_firm-clause-refused g c =
    let look = c.in_ok-chosen.ensures in
    let p = err_from_is_err_and c.from_residual-in_err-make_firm.result c.from_residual-in_err-make_firm.ensures.1 in
    rw (p.1, p.2) (λ told. refused_at g.H.Host _ _ c.look.new.host _ _ _ c.in_ok-chosen.chosen.root c.in_ok-chosen.chosen.number c.in_err-make_firm.field-0.0
    told c.roots.ensures c.image.ensures c.changes.ensures look.slot (look.chooses told) look.alike (c.in_err-make_firm.ensures.refused told))

pub returns-in_err-make_firm-clause-tried : goal.returns-in_err-make_firm-clause-tried
returns-in_err-make_firm-clause-tried g c = when_err _ _
    (inr (first_more g.H.Host _ _ _ _ (subst (λ (y : List ℕ). SyncsFirst g.H.Host y c.args.host.now c.look.new.host) c.roots.ensures c.in_ok-chosen.ensures.first) c.make_firm.ensures.narrows))

pub returns-in_err-make_firm-clause-narrows : goal.returns-in_err-make_firm-clause-narrows
returns-in_err-make_firm-clause-narrows g c = narrows_join g.H.Host _ _ _ c.look.ensures.narrows c.make_firm.ensures.narrows

pub returns-in_err-make_firm-clause-spares : goal.returns-in_err-make_firm-clause-spares
returns-in_err-make_firm-clause-spares g c =
    spared g.H.Host _ _ _ _ _ _ _ c.in_ok-chosen.chosen.root.slot c.roots.ensures c.image.ensures c.changes.ensures c.look.ensures.only c.make_firm.ensures.spares

pub returns-clause-chosen : goal.returns-clause-chosen
returns-clause-chosen g c told =
    let look = c.in_ok-chosen.ensures in
    let firm = c.in_ok-make_firm.ensures in
    looked_at g.H.Host _ _ _ _ _ _ _ c.in_ok-chosen.chosen.root c.in_ok-chosen.chosen.number told c.roots.ensures c.image.ensures c.changes.ensures
    look.number look.slot (look.chooses told) look.synced look.alike c.make_firm.ensures.narrows firm.alike (firm.fit told) firm.image firm.changes

pub returns-clause-first : goal.returns-clause-first
returns-clause-first g c =
    first_more g.H.Host _ _ _ _ (subst (λ (y : List ℕ). SyncsFirst g.H.Host y c.args.host.now c.look.new.host) c.roots.ensures c.in_ok-chosen.ensures.first) c.make_firm.ensures.narrows

pub returns-clause-alike : goal.returns-clause-alike
returns-clause-alike g c = alike_join g.H.Host _ _ _ c.in_ok-chosen.ensures.alike c.in_ok-make_firm.ensures.alike

pub returns-clause-narrows : goal.returns-clause-narrows
returns-clause-narrows g c = narrows_join g.H.Host _ _ _ c.look.ensures.narrows c.make_firm.ensures.narrows

pub returns-clause-spares : goal.returns-clause-spares
returns-clause-spares g c =
    spared g.H.Host _ _ _ _ _ _ _ c.in_ok-chosen.chosen.root.slot c.roots.ensures c.image.ensures c.changes.ensures c.look.ensures.only c.make_firm.ensures.spares

pub returns-in_err-chosen-clause-synced : goal.returns-in_err-chosen-clause-synced
returns-in_err-chosen-clause-synced g c =
    let p = err_from_is_err_and c.from_residual.result c.from_residual.ensures.1 in
    rw (p.1, p.2) (λ calm. subst (λ (y : List ℕ). IsSynced g.H.Host y c.look.new.host) c.roots.ensures (c.in_err-chosen.ensures.firm calm))

pub returns-in_err-make_firm-clause-synced : goal.returns-in_err-make_firm-clause-synced
returns-in_err-make_firm-clause-synced g c =
    let name = string_bytes c.args.names.now.name in
    let slot = c.in_ok-chosen.chosen.root.slot in
    let p = err_from_is_err_and c.from_residual-in_err-make_firm.result c.from_residual-in_err-make_firm.ensures.1 in
    rw (p.1, p.2) (λ calm. subst (λ (y : List ℕ). IsSynced g.H.Host y c.make_firm.new.host) c.roots.ensures
    (still_synced g.H.Host name _ _ c.look.new.host c.make_firm.new.host
    ((λ same. image_roots name slot (sym (sym c.roots.ensures ∙ same ∙ c.image.ensures))), (λ same. changes_roots name slot (sym (sym c.roots.ensures ∙ same ∙ c.changes.ensures))))
    c.make_firm.ensures.spares c.in_ok-chosen.ensures.synced))
