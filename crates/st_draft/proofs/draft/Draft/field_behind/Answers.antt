use Rattle.std.proofs.Common.{◌+◌, ◌<◌, ◌≤◌, refl, arith}
use Rattle.st_model.specs.Values.{word}
use Rattle.st_draft.proofs.Drafted.{has_start, has_not, has_past}
use Rattle.st_draft.proofs.draft.Draft.field_behind.Goals as goal

pub returns-in-Err-clause-none : goal.returns-in-Err-clause-none
returns-in-Err-clause-none g c =
    let d = c.args.self.now in
    has_not (g.M.Memory.view d.base.now).objects d.notes.made d.notes.made_count d.notes.changes d.notes.count (word c.args.o) _ (c.args.from + c.args.places) c.in-Err.ensures.counts

pub returns-then-fields-places-clause-none : goal.returns-then-fields-places-clause-none
returns-then-fields-places-clause-none g c =
    let d = c.args.self.now in
    let past : c.in-Ok.fields ≤ c.args.from + c.args.places = omega arith in
    has_past (g.M.Memory.view d.base.now).objects d.notes.made d.notes.made_count d.notes.changes d.notes.count (word c.args.o) c.in-Ok.fields (c.args.from + c.args.places) c.in-Ok.ensures.counts past

pub returns-then-fields-places-2-clause-none : goal.returns-then-fields-places-2-clause-none
returns-then-fields-places-2-clause-none g c =
    let d = c.args.self.now in
    let past : c.in-Ok.fields ≤ c.args.from + c.args.places = omega arith in
    has_past (g.M.Memory.view d.base.now).objects d.notes.made d.notes.made_count d.notes.changes d.notes.count (word c.args.o) c.in-Ok.fields (c.args.from + c.args.places) c.in-Ok.ensures.counts past

pub returns-clause-found : goal.returns-clause-found
returns-clause-found g c =
    let d = c.args.self.now in
    let within : c.args.from + c.args.places < c.in-Ok.fields = omega arith in
    (refl, has_start (g.M.Memory.view d.base.now).objects d.notes.made d.notes.made_count d.notes.changes d.notes.count (word c.args.o) c.in-Ok.fields (c.args.from + c.args.places) c.in-Ok.ensures.counts within)
