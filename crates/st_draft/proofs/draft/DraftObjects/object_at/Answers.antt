use Rattle.std.proofs.Common.{sym, ap, ◌∙◌}
use Rattle.std.specs.Prelude.{None}
use Rattle.st_model.specs.Steps.{named_or_not}
use Rattle.st_model.specs.Table.{borne_apart}
use Rattle.st_draft.specs.inside.Noted.{drafted}
use Rattle.st_draft.proofs.Bearing.{reads_bearer, over_notes, draft_zero}
use Rattle.st_draft.proofs.draft.DraftObjects.object_at.Goals as goal

pub returns-then-half-eq0 : goal.returns-then-half-eq0
returns-then-half-eq0 g c =
    let d = c.args.self.now in
    let now = drafted (g.M.Memory.view d.base.now).objects d.notes d.exchanges in
    let whole = g.met.M.Memory.whole d.base.now in
    let over = over_notes _ d.notes d.exchanges whole.places d.there in
    reads_bearer now c.args.half None (draft_zero over whole.unused ∙ ap (λ k. named_or_not (borne_apart now k)) (sym c.if-half-eq0.true))

pub returns : goal.returns
returns g c =
    let d = c.args.self.now in
    let now = drafted (g.M.Memory.view d.base.now).objects d.notes d.exchanges in
    reads_bearer now c.args.half c.bearer.result c.bearer.ensures
