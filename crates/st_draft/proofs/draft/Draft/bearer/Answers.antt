use Rattle.std.proofs.Common.{sym, ◌∙◌, arith}
use Rattle.st_draft.proofs.Bearing.{over_notes, taken_low, draft_taken, draft_made, draft_none}
use Rattle.st_draft.proofs.draft.Draft.bearer.Goals as goal

pub returns-then-is_taken : goal.returns-then-is_taken
returns-then-is_taken g c =
    let d = c.args.self.now in
    let over = over_notes _ d.notes d.exchanges (g.met.M.Memory.whole d.base.now).places d.there in
    draft_taken over c.args.place (sym c.is_taken.ensures ∙ c.if-is_taken.true)

pub returns-then-number-self : goal.returns-then-number-self
returns-then-number-self g c =
    let d = c.args.self.now in
    let over = over_notes _ d.notes d.exchanges (g.met.M.Memory.whole d.base.now).places d.there in
    draft_made over c.args.place c.args.number c.requires.place (sym c.is_taken.ensures ∙ c.if-is_taken.false) c.requires.number c.if-number-self.true

pub returns-else-number-self : goal.returns-else-number-self
returns-else-number-self g c =
    let d = c.args.self.now in
    let over = over_notes _ d.notes d.exchanges (g.met.M.Memory.whole d.base.now).places d.there in
    draft_none over c.args.place c.args.number c.requires.place (sym c.is_taken.ensures ∙ c.if-is_taken.false) c.requires.number c.if-number-self.false

pub overflow_mul-result : goal.overflow_mul-result
overflow_mul-result g c =
    let d = c.args.self.now in
    let l = taken_low (g.M.Memory.view d.base.now).objects c.args.place (g.met.M.Memory.whole d.base.now).places (sym c.is_taken.ensures ∙ c.if-is_taken.true) in
    omega (arith, l)
