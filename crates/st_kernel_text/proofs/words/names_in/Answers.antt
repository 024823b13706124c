use Rattle.std.proofs.Common.{sym}
use Rattle.st_kernel_text.specs.Words.{words}
use Rattle.st_kernel_text.proofs.Splitting.{names_more}
use Rattle.st_kernel_text.proofs.words.names_in.Goals as goal

pub loop-word-preserved : goal.loop-word-preserved
loop-word-preserved c =
    let text = c.in_ok-to_vec.ensures.items_if_clones_equal (λ x y h. h) in
    names_more (words c.args.text.now) (words c.loop-word.rest.now) (words c.in-Some.behind.now) c.loop-word.names.items c.push.new.self.items c.in_ok-to_vec.field-0 c.in-Some.word.now
    c.loop-word.invariant c.in-Some.ensures.found (sym c.if-not-is_name.ensures) c.in_ok-push.ensures.items text
