use Rattle.std.proofs.Common.{sym, ◌∙◌, arith, ◌+◌}
use Rattle.st_draft.proofs.Bearing.{number_taken, number_free, number_full}
use Rattle.st_draft.proofs.draft.Draft.next_number.Goals as goal

pub returns-then-number-self : goal.returns-then-number-self
returns-then-number-self g c =
    let d = c.args.self.now in
    number_full (g.M.Memory.view d.base.now).objects d.notes.made_count c.args.place c.args.number c.requires.number (c.args.place + 1) c.if-number-self.true (omega arith)

pub returns-then-is_taken : goal.returns-then-is_taken
returns-then-is_taken g c =
    let d = c.args.self.now in
    number_taken (g.M.Memory.view d.base.now).objects d.notes.made_count c.args.place c.args.number c.requires.number c.requires.place (sym c.is_taken.ensures ∙ c.if-is_taken.true)

pub returns-else-is_taken : goal.returns-else-is_taken
returns-else-is_taken g c =
    let d = c.args.self.now in
    number_free (g.M.Memory.view d.base.now).objects d.notes.made_count c.args.place c.args.number c.requires.number c.requires.place (sym c.is_taken.ensures ∙ c.if-is_taken.false) c.if-number-self.false
