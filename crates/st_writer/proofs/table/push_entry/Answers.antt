use Rattle.std.proofs.Common.{◌≡◌, ◌++◌, sym, ap, ◌∙◌}
use Rattle.std.specs.Prelude.{Option, Some, None}
use Rattle.st_model.specs.Objects.{Object}
use Rattle.st_model.specs.Values.{value}
use Rattle.st_model.specs.Table.{entry}
use Rattle.st_model.specs.View.{object_of}
use Rattle.st_host.proofs.Pushing.{push_then}
use Rattle.st_writer.specs.Written.{word_bytes, long_bytes, entry_bytes}
use Rattle.st_writer.proofs.Places.{there, absent}
use Rattle.st_writer.proofs.table.push_entry.Goals as goal

pub returns-in_ok-push_word : goal.returns-in_ok-push_word
returns-in_ok-push_word g c =
    let t = (g.M.Memory.view c.args.m.now).objects in
    let at = c.args.at in
    let e : entry t c.args.k ≡ Some (object_of t (value c.pointer_of-o.result)) = there t (value c.pointer_of-o.result) c.args.k c.pointer_of-o.ensures (sym c.live.ensures ∙ c.if-live.true) in
    push_then g.H.Host c.args.name.now _ (word_bytes c.marks_of.result) (long_bytes at) _ _ _ _ _ _ _ c.in_ok-push_word.ensures c.push_long.ensures
    (ap (λ (x : Option Object). entry_bytes x at) e ∙ (λ k. word_bytes (sym c.marks_of.ensures k) ++ long_bytes at))

pub returns-in_ok-push_word-2 : goal.returns-in_ok-push_word-2
returns-in_ok-push_word-2 g c =
    let t = (g.M.Memory.view c.args.m.now).objects in
    let e : entry t c.args.k ≡ None = absent t (value c.pointer_of-o.result) c.args.k c.pointer_of-o.ensures (sym c.live.ensures ∙ c.if-live.false) in
    push_then g.H.Host c.args.name.now _ (word_bytes 32) (long_bytes 0) _ _ _ _ _ _ _ c.in_ok-push_word-2.ensures c.push_long-else-live.ensures
    (ap (λ (x : Option Object). entry_bytes x c.args.at) e)
