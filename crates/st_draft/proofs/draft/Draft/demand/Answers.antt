use Rattle.std.proofs.Common.{◌+◌, ap, sym, ◌∙◌}
use Rattle.st_model.specs.Objects.{one, words_of}
use Rattle.st_model.specs.Table.{total_used}
use Rattle.st_draft.specs.inside.Noted.{noted}
use Rattle.st_draft.proofs.Behind.{used_entries, used_words, total_made, made_fit}
use Rattle.st_draft.proofs.Exchanged.{total_all}
use Rattle.st_draft.proofs.draft.Draft.demand.Goals as goal

pub returns-clause-entries : goal.returns-clause-entries
returns-clause-entries g c =
    let d = c.args.self.now in
    let t = (g.M.Memory.view d.base.now).objects in
    total_all d.exchanges.pairs one (noted t d.notes) d.exchanges.count d.there
    ∙ used_entries t d.notes.made d.notes.made_count d.notes.changes d.notes.count ∙ ap (λ n. total_used one t + n) (total_made d.notes.made d.notes.made_count (made_fit d.notes))

pub returns-clause-words : goal.returns-clause-words
returns-clause-words g c =
    let d = c.args.self.now in
    let t = (g.M.Memory.view d.base.now).objects in
    total_all d.exchanges.pairs words_of (noted t d.notes) d.exchanges.count d.there
    ∙ used_words t d.notes.made d.notes.made_count d.notes.changes d.notes.count ∙ ap (λ n. total_used words_of t + n) (sym d.notes.counted)
