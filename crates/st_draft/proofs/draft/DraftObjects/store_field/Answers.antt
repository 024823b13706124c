use Rattle.std.proofs.Common.{sym, ◌∙◌}
use Rattle.std.proofs.lemmas.Result.{err_from_is_err_and}
use Rattle.st_model.specs.Values.{word}
use Rattle.st_draft.specs.inside.Drafts.{after_change}
use Rattle.st_draft.specs.inside.Noted.{noted, drafted}
use Rattle.st_draft.proofs.Keeping.{closed_field}
use Rattle.st_draft.proofs.Storing.{below_draft, stores_lacking, stores_absent, stores}
use Rattle.st_draft.proofs.Exchanged.{live_names}
use Rattle.st_draft.proofs.Behind.{made_fit}
use Rattle.st_draft.proofs.Moved.{names_of, there_before, field_behind}
use Rattle.st_draft.proofs.draft.DraftObjects.store_field.Goals as goal

pub returns-in_err-check_fields-clause-stores : goal.returns-in_err-check_fields-clause-stores
returns-in_err-check_fields-clause-stores g c =
    let d = c.args.self.now in
    let now = drafted (g.M.Memory.view d.base.now).objects d.notes d.exchanges in
    let p = err_from_is_err_and c.from_residual.result c.from_residual.ensures.1 in
    rw (p.1, p.2) (stores_lacking now now (word c.args.o) c.args.i (word c.args.x) (g.M.Memory.view d.base.now).head _ c.in_err-check_fields.ensures.lacks)

pub returns-then-not-is_there-clause-stores : goal.returns-then-not-is_there-clause-stores
returns-then-not-is_there-clause-stores g c =
    let d = c.args.self.now in
    let now = drafted (g.M.Memory.view d.base.now).objects d.notes d.exchanges in
    stores_absent now now (word c.args.o) c.args.i (word c.args.x) (g.M.Memory.view d.base.now).head c.in_ok-check_fields.ensures.has (sym c.is_there.ensures ∙ c.if-not-is_there.true)

pub note-requires-clause-named : goal.note-requires-clause-named
note-requires-clause-named g c =
    let d = c.args.self.now in
    let now = drafted (g.M.Memory.view d.base.now).objects d.notes d.exchanges in
    let before = noted (g.M.Memory.view d.base.now).objects d.notes in
    let names = names_of (noted (g.M.Memory.view d.base.now).objects d.notes) d.exchanges.pairs d.exchanges.count d.there (word c.args.o) (word c.word_before-before.result) c.word_before-before.ensures in
    below_draft (g.M.Memory.view d.base.now).objects d.notes.made d.notes.made_count d.notes.changes d.notes.count c.word_before-before.result (g.met.M.Memory.whole d.base.now).places (made_fit d.notes)
    (sym (live_names now before (word c.args.o) (word c.word_before-before.result) names) ∙ c.in_ok-check_fields.ensures.has.live)

pub note-requires-clause-closed : goal.note-requires-clause-closed
note-requires-clause-closed g c =
    let d = c.args.self.now in
    let before = noted (g.M.Memory.view d.base.now).objects d.notes in
    closed_field before c.word_before-before.result c.args.i c.args.x d.closed
    (there_before before d.exchanges.pairs d.exchanges.count d.there (word c.args.x) ∙ (sym c.is_there.ensures ∙ c.if-not-is_there.false))

pub returns-clause-stores : goal.returns-clause-stores
unfolding after_change
returns-clause-stores g c =
    let d = c.args.self.now in
    let now = drafted (g.M.Memory.view d.base.now).objects d.notes d.exchanges in
    let before = noted (g.M.Memory.view d.base.now).objects d.notes in
    stores now _ (word c.args.o) c.args.i (word c.args.x) (g.M.Memory.view d.base.now).head c.in_ok-check_fields.ensures.has (sym c.is_there.ensures ∙ c.if-not-is_there.false)
    (field_behind before _ d.exchanges _ c.args.o c.word_before-before.result c.args.x c.args.i c.note.ensures.table c.note.ensures.exchanges d.there c.word_before-before.ensures)
