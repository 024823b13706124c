use Rattle.std.proofs.Common.{◌≡◌, ◌-◌, ◌∙◌, length, string_bytes, sym, ap, subst}
use Rattle.st_host.proofs.Joining.{on_err}
use Rattle.st_store.specs.Roots.{root_bytes, place, Fits}
use Rattle.st_store.proofs.Turning.{staging, staged, rests, writes_as, written_as, synced_as}
use Rattle.st_store.proofs.steps.stage.Goals as goal

pub returns-in_err-write_synced-clause-makes : goal.returns-in_err-write_synced-clause-makes
returns-in_err-write_synced-clause-makes g c x d told chosen firm same =
    staging g.H.Host _ x d _ _ _ told (g.met.H.Host.read_counts _ _ told) c.args.chosen chosen
    (writes_as g.H.Host _ _ (place (1 - c.args.chosen)) _ 32 _ _ c.roots.ensures (ap length c.bytes_of_root-bytes.ensures.bytes) c.write_synced.ensures.writes)
    (on_err _ _ c.from_residual.ensures.0)

pub returns-clause-staged : goal.returns-clause-staged
returns-clause-staged g c x d told chosen firm same =
    let H = g.H.Host in
    let name = string_bytes c.args.names.now.name in
    let bytes : c.bytes_of_root-bytes.result ≡ root_bytes d.root = c.bytes_of_root-bytes.ensures.bytes ∙ ap root_bytes (sym same) in
    let writes = writes_as H name _ (place (1 - c.args.chosen)) _ 32 _ _ c.roots.ensures (ap length c.bytes_of_root-bytes.ensures.bytes) c.write_synced.ensures.writes in
    staged H name c.args.chosen x d _ _ chosen firm (g.met.H.Host.read_counts _ _ told)
    (subst Fits (sym same) c.bytes_of_root-bytes.ensures.fits)
    (writes.run.others told)
    (written_as H name _ (place (1 - c.args.chosen)) _ (root_bytes d.root) _ _ c.roots.ensures bytes (c.in_ok-write_synced.ensures.written told))
    (synced_as H name _ _ c.roots.ensures told c.in_ok-write_synced.ensures.synced)

pub returns-clause-makes : goal.returns-clause-makes
returns-clause-makes g c x d told chosen firm same =
    let now = returns-clause-staged g c x d told chosen firm same in
    staging g.H.Host _ x d _ _ _ told (g.met.H.Host.read_counts _ _ told) c.args.chosen chosen
    (writes_as g.H.Host _ _ (place (1 - c.args.chosen)) _ 32 _ _ c.roots.ensures (ap length c.bytes_of_root-bytes.ensures.bytes) c.write_synced.ensures.writes)
    (record { opens_as = λ f can. rests g.H.Host _ _ c.args.chosen x f now.chosen can })
