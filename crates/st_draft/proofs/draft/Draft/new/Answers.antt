use Rattle.std.proofs.Common.{sym, subst, ◌∙◌, arith}
use Rattle.st_draft.specs.inside.Drafts.{AllThere}
use Rattle.st_draft.specs.inside.Noted.{noted}
use Rattle.st_draft.proofs.Keeping.{closed_whole}
use Rattle.st_draft.proofs.Moved.{none_exchanged}
use Rattle.st_draft.proofs.draft.Draft.new.Goals as goal

pub invariant_of-result : goal.invariant_of-result
invariant_of-result g c =
    let v = g.M.Memory.view c.args.base.now in
    let none = c.new-exchanges.ensures in
    let empty = c.new-notes.ensures.empty in
    record {
      few = omega (arith, none, empty);
      closed = subst AllThere (sym (c.new-notes.ensures.none v.objects)) (closed_whole v (g.met.M.Memory.whole c.args.base.now));
      there = λ k l. absurd (omega (arith, l, none));
    }

pub returns-clause-table : goal.returns-clause-table
returns-clause-table g c =
    let t = (g.M.Memory.view c.args.base.now).objects in
    none_exchanged (noted t c.new-notes.result) c.new-exchanges.result c.new-exchanges.ensures ∙ c.new-notes.ensures.none t
