use Rattle.std.proofs.Common.{◌+◌, ◌<◌, refl, sym, ◌∙◌, arith}
use Rattle.std.specs.Prelude.{◌*◌}
use Rattle.std.proofs.lemmas.Result.{err_from_is_err_and}
use Rattle.st_model.specs.Values.{word}
use Rattle.st_draft.specs.inside.Noted.{noted, drafted}
use Rattle.st_draft.proofs.Keeping.{closed_fields}
use Rattle.st_draft.proofs.Storing.{below_draft, copies_none, copies_unread, copies_unwritten, copies}
use Rattle.st_draft.proofs.Exchanged.{live_names, closed_all}
use Rattle.st_draft.proofs.Behind.{made_fit}
use Rattle.st_draft.proofs.Moved.{names_of, fields_behind}
use Rattle.st_draft.proofs.draft.DraftObjects.transfer.Goals as goal

pub returns-then-n-eq0-clause-transfers : goal.returns-then-n-eq0-clause-transfers
returns-then-n-eq0-clause-transfers g c =
    let d = c.args.self.now in
    let now = drafted (g.M.Memory.view d.base.now).objects d.notes d.exchanges in
    copies_none now now c.args.source c.args.target c.args.from c.args.to (g.M.Memory.view d.base.now).head c.args.n c.if-n-eq0.true refl

pub returns-in_err-check_fields-clause-transfers : goal.returns-in_err-check_fields-clause-transfers
returns-in_err-check_fields-clause-transfers g c =
    let d = c.args.self.now in
    let now = drafted (g.M.Memory.view d.base.now).objects d.notes d.exchanges in
    let p = err_from_is_err_and c.from_residual.result c.from_residual.ensures.1 in
    rw (p.1, p.2) (copies_unread now now c.args.source c.args.target c.args.from c.args.to (g.M.Memory.view d.base.now).head c.args.n _ c.if-n-eq0.false c.in_err-check_fields.ensures.lacks)

pub returns-in_err-check_fields-2-clause-transfers : goal.returns-in_err-check_fields-2-clause-transfers
returns-in_err-check_fields-2-clause-transfers g c =
    let d = c.args.self.now in
    let now = drafted (g.M.Memory.view d.base.now).objects d.notes d.exchanges in
    let before = noted (g.M.Memory.view d.base.now).objects d.notes in
    let p = err_from_is_err_and c.from_residual-in_err-check_fields-2.result c.from_residual-in_err-check_fields-2.ensures.1 in
    rw (p.1, p.2) (copies_unwritten now now c.args.source c.args.target c.args.from c.args.to (g.M.Memory.view d.base.now).head (closed_all d.exchanges.pairs before d.exchanges.count d.there d.closed) c.args.n _ c.if-n-eq0.false c.in_ok-check_fields.ensures.has c.in_err-check_fields-2.ensures.lacks)

pub note-requires-clause-named : goal.note-requires-clause-named
note-requires-clause-named g c =
    let d = c.args.self.now in
    let now = drafted (g.M.Memory.view d.base.now).objects d.notes d.exchanges in
    let before = noted (g.M.Memory.view d.base.now).objects d.notes in
    let first = names_of before d.exchanges.pairs d.exchanges.count d.there (word c.args.source) (word c.word_before-first.result) c.word_before-first.ensures in
    let second = names_of before d.exchanges.pairs d.exchanges.count d.there (word c.args.target) (word c.word_before-second.result) c.word_before-second.ensures in
    let low : c.word_before-first.result.0 < 65536 + 2 * d.notes.made_count = below_draft (g.M.Memory.view d.base.now).objects d.notes.made d.notes.made_count d.notes.changes d.notes.count c.word_before-first.result (g.met.M.Memory.whole d.base.now).places (made_fit d.notes)
    (sym (live_names now before (word c.args.source) (word c.word_before-first.result) first) ∙ c.in_ok-check_fields.ensures.has.live) in
    let high : c.word_before-second.result.0 < 65536 + 2 * d.notes.made_count = below_draft (g.M.Memory.view d.base.now).objects d.notes.made d.notes.made_count d.notes.changes d.notes.count c.word_before-second.result (g.met.M.Memory.whole d.base.now).places (made_fit d.notes)
    (sym (live_names now before (word c.args.target) (word c.word_before-second.result) second) ∙ c.in_ok-check_fields-2.ensures.has.live) in
    omega (arith, low, high)

pub note-requires-clause-closed : goal.note-requires-clause-closed
note-requires-clause-closed g c =
    let d = c.args.self.now in
    closed_fields (noted (g.M.Memory.view d.base.now).objects d.notes) c.args.n c.args.from c.args.to c.word_before-first.result c.word_before-second.result d.closed

pub returns-clause-transfers : goal.returns-clause-transfers
returns-clause-transfers g c =
    let d = c.args.self.now in
    let now = drafted (g.M.Memory.view d.base.now).objects d.notes d.exchanges in
    let before = noted (g.M.Memory.view d.base.now).objects d.notes in
    copies now _ c.args.source c.args.target c.args.from c.args.to (g.M.Memory.view d.base.now).head (closed_all d.exchanges.pairs before d.exchanges.count d.there d.closed) c.args.n c.in_ok-check_fields.ensures.has c.in_ok-check_fields-2.ensures.has
    (fields_behind before _ d.exchanges _ c.args.source c.args.target c.word_before-first.result c.word_before-second.result c.args.n c.args.from c.args.to c.note.ensures.table c.note.ensures.exchanges d.there c.word_before-first.ensures c.word_before-second.ensures)
