use Rattle.std.proofs.Common.{Ok, Err}
use Rattle.st_model.specs.declared.dead.Dead.TheVariants as dead
use Rattle.std.proofs.lemmas.Result.{err_from_is_err_and}
use Rattle.st_model.specs.Values.{word}
use Rattle.st_draft.specs.inside.Noted.{noted}
use Rattle.st_draft.proofs.Drafted.{fetch_err, fetch_ok, fetch_past, has_start}
use Rattle.st_draft.proofs.Moved.{names_of, fetch_names}
use Rattle.st_draft.proofs.draft.DraftObjects.fetch_field.Goals as goal

pub returns-in_err-count_noted : goal.returns-in_err-count_noted
returns-in_err-count_noted g c =
    let d = c.args.self.now in
    let names = names_of (noted (g.M.Memory.view d.base.now).objects d.notes) d.exchanges.pairs d.exchanges.count d.there (word c.args.o) (word c.word_before-before.result) c.word_before-before.ensures in
    let p = err_from_is_err_and c.from_residual.result c.from_residual.ensures.1 in
    rw (p.1, p.2) (fetch_names names c.args.i (Err c.in_err-count_noted.field-0.0) (fetch_err (g.M.Memory.view d.base.now).objects d.notes.made d.notes.made_count d.notes.changes d.notes.count (word c.word_before-before.result) _ c.args.i c.in_err-count_noted.ensures.counts))

pub value-requires : goal.value-requires
value-requires g c =
    let d = c.args.self.now in
    has_start (g.M.Memory.view d.base.now).objects d.notes.made d.notes.made_count d.notes.changes d.notes.count (word c.word_before-before.result) c.in_ok-count_noted.field-0 c.args.i c.in_ok-count_noted.ensures.counts c.if-branch.true

pub returns-then-branch : goal.returns-then-branch
returns-then-branch g c =
    let d = c.args.self.now in
    let names = names_of (noted (g.M.Memory.view d.base.now).objects d.notes) d.exchanges.pairs d.exchanges.count d.there (word c.args.o) (word c.word_before-before.result) c.word_before-before.ensures in
    fetch_names names c.args.i (Ok c.value.result) (fetch_ok (g.M.Memory.view d.base.now).objects d.notes.made d.notes.made_count d.notes.changes d.notes.count (word c.word_before-before.result) c.in_ok-count_noted.field-0 c.args.i c.value.result c.in_ok-count_noted.ensures.counts c.value.ensures)

pub returns-else-branch : goal.returns-else-branch
returns-else-branch g c =
    let d = c.args.self.now in
    let names = names_of (noted (g.M.Memory.view d.base.now).objects d.notes) d.exchanges.pairs d.exchanges.count d.there (word c.args.o) (word c.word_before-before.result) c.word_before-before.ensures in
    fetch_names names c.args.i (Err dead.Field) (fetch_past (g.M.Memory.view d.base.now).objects d.notes.made d.notes.made_count d.notes.changes d.notes.count (word c.word_before-before.result) c.in_ok-count_noted.field-0 c.args.i c.in_ok-count_noted.ensures.counts c.if-branch.false)
