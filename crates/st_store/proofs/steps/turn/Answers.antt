use Rattle.std.proofs.Common.{◌∙◌, ℕ, [], ◌∷◌, refl, string_bytes, ap}
use Rattle.st_host.proofs.Joining.{on_err}
use Rattle.st_host.specs.Files.{bytes_of}
use Rattle.st_store.specs.Names.{roots_file}
use Rattle.st_store.specs.Roots.{place, root_at}
use Rattle.st_store.proofs.Turning.{turning, turning_ready, gate_turned, rests, writes_as, written_as}
use Rattle.st_store.proofs.steps.turn.Goals as goal

pub returns-in_err-write_synced-clause-makes : goal.returns-in_err-write_synced-clause-makes
returns-in_err-write_synced-clause-makes g c k x d told is st =
    turning g.H.Host _ x d _ _ _ told (g.met.H.Host.read_counts _ _ told) k st
    (writes_as g.H.Host _ _ 8 1 1 _ _ c.roots.ensures refl c.write_synced.ensures.writes) (on_err _ _ c.from_residual.ensures.0)

pub returns-in_err-write_synced-clause-keeps : goal.returns-in_err-write_synced-clause-keeps
returns-in_err-write_synced-clause-keeps g c x told st =
    turning g.H.Host _ x x _ _ _ told (g.met.H.Host.read_counts _ _ told) c.args.gate st
    (writes_as g.H.Host _ _ 8 1 1 _ _ c.roots.ensures refl c.write_synced.ensures.writes) (on_err _ _ c.from_residual.ensures.0)

pub returns-clause-written : goal.returns-clause-written
returns-clause-written g c told =
    written_as g.H.Host (string_bytes c.args.names.now.name) c.roots.result.now 8 (c.args.gate ∷ []) (c.args.gate ∷ []) c.args.host.now c.write_synced.new.host
    c.roots.ensures refl (c.in_ok-write_synced.ensures.written told)

pub returns-clause-other : goal.returns-clause-other
returns-clause-other g c k x d told is st =
    let w = c.in_ok-write_synced.ensures in
    let reads = g.met.H.Host.read_counts c.args.host.now _ told in
    gate_turned g.H.Host _ _ k x d d _ _ c.args.gate c.roots.ensures c.requires told reads c.write_synced.ensures.writes (w.written told) w.synced st st.firm
    (ap (λ (j : ℕ). root_at (place j) (bytes_of (g.H.Host.files c.args.host.now (roots_file (string_bytes c.args.names.now.name))))) is ∙ st.other _ reads)

pub returns-clause-same : goal.returns-clause-same
returns-clause-same g c x told st =
    let w = c.in_ok-write_synced.ensures in
    let reads = g.met.H.Host.read_counts c.args.host.now _ told in
    gate_turned g.H.Host _ _ c.args.gate x x x _ _ c.args.gate c.roots.ensures c.requires told reads c.write_synced.ensures.writes (w.written told) w.synced st st.chosen.firm
    (st.chosen.roots _ reads).names

pub returns-clause-makes : goal.returns-clause-makes
returns-clause-makes g c k x d told is st =
    let chosen = returns-clause-other g c k x d told is st in
    turning g.H.Host _ x d _ _ _ told (g.met.H.Host.read_counts _ _ told) k st
    (writes_as g.H.Host _ _ 8 1 1 _ _ c.roots.ensures refl c.write_synced.ensures.writes) (record { opens_as = λ f can. rests g.H.Host _ _ c.args.gate d f chosen can })

pub returns-clause-keeps : goal.returns-clause-keeps
returns-clause-keeps g c x told st =
    let chosen = returns-clause-same g c x told st in
    turning g.H.Host _ x x _ _ _ told (g.met.H.Host.read_counts _ _ told) c.args.gate st
    (writes_as g.H.Host _ _ 8 1 1 _ _ c.roots.ensures refl c.write_synced.ensures.writes) (record { opens_as = λ f can. rests g.H.Host _ _ c.args.gate x f chosen can })

pub returns-in_err-write_synced-clause-ready : goal.returns-in_err-write_synced-clause-ready
returns-in_err-write_synced-clause-ready g c k x d told st =
    turning_ready g.H.Host _ k x d _ _ told (writes_as g.H.Host _ _ 8 1 1 _ _ c.roots.ensures refl c.write_synced.ensures.writes) st (g.met.H.Host.read_counts _ _ told)

pub returns-clause-ready : goal.returns-clause-ready
returns-clause-ready g c k x d told st =
    turning_ready g.H.Host _ k x d _ _ told (writes_as g.H.Host _ _ 8 1 1 _ _ c.roots.ensures refl c.write_synced.ensures.writes) st (g.met.H.Host.read_counts _ _ told)
