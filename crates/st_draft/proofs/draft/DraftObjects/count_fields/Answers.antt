use Rattle.st_model.specs.Values.{word}
use Rattle.st_draft.specs.inside.Noted.{noted}
use Rattle.st_draft.proofs.Moved.{names_of, count_names}
use Rattle.st_draft.proofs.draft.DraftObjects.count_fields.Goals as goal

pub returns-clause-counts : goal.returns-clause-counts
returns-clause-counts g c =
    let d = c.args.self.now in
    let names = names_of (noted (g.M.Memory.view d.base.now).objects d.notes) d.exchanges.pairs d.exchanges.count d.there (word c.args.o) (word c.word_before-before.result) c.word_before-before.ensures in
    count_names names c.count_noted.result c.count_noted.ensures.counts
