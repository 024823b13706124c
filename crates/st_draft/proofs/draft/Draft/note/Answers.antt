use Rattle.std.proofs.Common.{◌<◌, length, sym, ◌∙◌, subst, arith}
use Rattle.st_model.specs.Table.{Table}
use Rattle.st_draft.specs.inside.Drafts.{AllThere, AreOf, after_change}
use Rattle.st_draft.specs.inside.Noted.{noted}
use Rattle.st_draft.proofs.Replaying.{after_like}
use Rattle.st_draft.proofs.Exchanged.{of_same}
use Rattle.st_draft.proofs.Moved.{note_more}
use Rattle.st_draft.proofs.draft.Draft.note.Goals as goal

pub invariant_of-self : goal.invariant_of-self
invariant_of-self g c =
    let d = c.args.self.now in
    let e = c.note.ensures in
    let within : d.notes.count < length d.notes.changes = let a = d.notes.sizes.1 in let b = c.requires.room in omega (arith, a, b) in
    let table = note_more (g.M.Memory.view d.base.now).objects d.notes c.note.new.self c.args.change within e.made e.made_count e.changes e.count in
    let before = noted (g.M.Memory.view d.base.now).objects d.notes in
    record {
      few = let a = e.made_count in let b = e.count in let r = c.requires.room in omega (arith, a, b, r);
      closed = subst AllThere (sym table) c.requires.closed;
      there = subst (λ (t : Table). AreOf t d.exchanges.pairs d.exchanges.count) (sym table)
          (of_same before (after_change before c.args.change) d.exchanges.pairs d.exchanges.count (λ v h. (after_like before c.args.change).live v ∙ h) d.there);
    }

pub returns-clause-table : goal.returns-clause-table
returns-clause-table g c =
    let d = c.args.self.now in
    let e = c.note.ensures in
    let within : d.notes.count < length d.notes.changes = let a = d.notes.sizes.1 in let b = c.requires.room in omega (arith, a, b) in
    let table = note_more (g.M.Memory.view d.base.now).objects d.notes c.note.new.self c.args.change within e.made e.made_count e.changes e.count in
    table
