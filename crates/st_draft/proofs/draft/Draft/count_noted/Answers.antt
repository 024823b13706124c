use Rattle.st_model.specs.Values.{word}
use Rattle.st_draft.proofs.Drafted.{count_base, count_made}
use Rattle.st_draft.proofs.draft.Draft.count_noted.Goals as goal

pub returns-in-Some-clause-counts : goal.returns-in-Some-clause-counts
returns-in-Some-clause-counts g c =
    let d = c.args.self.now in
    count_made (g.M.Memory.view d.base.now).objects d.notes.made d.notes.made_count d.notes.changes d.notes.count (word c.args.o) c.in-Some.made c.count_fields.result c.in-Some.ensures.found c.count_fields.ensures.counts

pub returns-in-None-clause-counts : goal.returns-in-None-clause-counts
returns-in-None-clause-counts g c =
    let d = c.args.self.now in
    count_base (g.M.Memory.view d.base.now).objects d.notes.made d.notes.made_count d.notes.changes d.notes.count (word c.args.o) c.count_fields-in-None.result c.in-None.ensures.none c.count_fields-in-None.ensures.counts
