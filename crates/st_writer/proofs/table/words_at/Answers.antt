use Rattle.std.proofs.Common.{sym, ap, ◌∙◌}
use Rattle.st_model.specs.Values.{value}
use Rattle.st_writer.specs.Written.{words_at}
use Rattle.st_writer.proofs.Places.{there, absent}
use Rattle.st_writer.proofs.table.words_at.Goals as goal

pub returns-then-live-clause-words : goal.returns-then-live-clause-words
returns-then-live-clause-words g c =
    let t = (g.M.Memory.view c.args.m.now).objects in
    c.count_words.ensures.words ∙ sym (ap words_at (there t (value c.pointer_of-o.result) c.args.k c.pointer_of-o.ensures (sym c.live.ensures ∙ c.if-live.true)))

pub returns-else-live-clause-words : goal.returns-else-live-clause-words
returns-else-live-clause-words g c =
    let t = (g.M.Memory.view c.args.m.now).objects in
    sym (ap words_at (absent t (value c.pointer_of-o.result) c.args.k c.pointer_of-o.ensures (sym c.live.ensures ∙ c.if-live.false)))
