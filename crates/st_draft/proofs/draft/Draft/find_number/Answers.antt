use Rattle.std.proofs.Common.{sym, ◌∙◌}
use Rattle.st_draft.proofs.Behind.{same_low, same_high, named_is, made_fit}
use Rattle.st_draft.proofs.draft.Draft.find_number.Goals as goal

pub returns-then-o-lt65536-clause-none : goal.returns-then-o-lt65536-clause-none
returns-then-o-lt65536-clause-none g c =
    let notes = c.args.self.now.notes in
    same_low _ notes.made notes.made_count c.args.o.0 (made_fit notes) (g.met.M.Memory.whole c.args.self.now.base.now).places (sym c.is_small.ensures ∙ c.if-is_small.false) c.if-o-lt65536.true

pub returns-else-number-self-clause-none : goal.returns-else-number-self-clause-none
returns-else-number-self-clause-none g c =
    let notes = c.args.self.now.notes in
    same_high _ notes.made notes.made_count c.args.o.0 (made_fit notes) (g.met.M.Memory.whole c.args.self.now.base.now).places (sym c.is_small.ensures ∙ c.if-is_small.false) c.if-o-lt65536.false c.if-number-self.false

pub returns-then-number-self-clause-named : goal.returns-then-number-self-clause-named
returns-then-number-self-clause-named g c =
    let notes = c.args.self.now.notes in
    named_is _ notes.made notes.made_count c.args.o.0 (made_fit notes) (g.met.M.Memory.whole c.args.self.now.base.now).places (sym c.is_small.ensures ∙ c.if-is_small.false) c.if-o-lt65536.false
