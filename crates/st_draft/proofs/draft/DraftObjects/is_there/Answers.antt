use Rattle.std.proofs.Common.{sym, ◌∙◌}
use Rattle.st_model.specs.Values.{word}
use Rattle.st_draft.specs.inside.Noted.{noted}
use Rattle.st_draft.proofs.Drafted.{there_if, there_else}
use Rattle.st_draft.proofs.Moved.{there_draft}
use Rattle.st_draft.proofs.draft.DraftObjects.is_there.Goals as goal

pub returns-then-is_some : goal.returns-then-is_some
returns-then-is_some g c =
    let d = c.args.self.now in
    c.if-is_some.true
    ∙ sym (there_draft (noted (g.M.Memory.view d.base.now).objects d.notes) d.exchanges.pairs d.exchanges.count d.there (word c.args.v)
    ∙ there_if (g.M.Memory.view d.base.now).objects d.notes.made d.notes.made_count d.notes.changes d.notes.count (word c.args.v) c.find_made.result (sym c.is_some.ensures ∙ c.if-is_some.true) c.find_made.ensures.found)

pub returns-else-is_some : goal.returns-else-is_some
returns-else-is_some g c =
    let d = c.args.self.now in
    c.is_there.ensures
    ∙ sym (there_draft (noted (g.M.Memory.view d.base.now).objects d.notes) d.exchanges.pairs d.exchanges.count d.there (word c.args.v)
    ∙ there_else (g.M.Memory.view d.base.now).objects d.notes.made d.notes.made_count d.notes.changes d.notes.count (word c.args.v) c.find_made.result (sym c.is_some.ensures ∙ c.if-is_some.false) c.find_made.ensures.none)
