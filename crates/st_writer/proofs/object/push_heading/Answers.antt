use Rattle.std.proofs.Common.{◌≡◌, ◌*◌, ◌++◌, sym}
use Rattle.st_model.specs.Values.{value}
use Rattle.st_model.specs.View.{object_of}
use Rattle.st_host.proofs.Pushing.{push_then}
use Rattle.st_writer.specs.Written.{word_bytes}
use Rattle.st_writer.proofs.Places.{pointer_word}
use Rattle.st_writer.proofs.object.push_heading.Goals as goal

pub returns : goal.returns
returns g c =
    let o = object_of (g.M.Memory.view c.args.m.now).objects (value c.args.o) in
    let class : c.class_of.result.0 ≡ 2 * o.class = pointer_word c.class_of.result.0 o.class c.class_of.ensures.class in
    push_then g.H.Host c.args.name.now _ (word_bytes c.count_words.result) (word_bytes c.class_of.result.0) _ _ _ _ _ _ _ c.in_ok-push_word.ensures c.push_word-2.ensures
    (λ k. word_bytes (sym c.count_words.ensures.words k) ++ word_bytes (sym class k))
