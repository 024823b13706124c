use Rattle.std.proofs.Common.{◌+◌, List, [], ◌∷◌, drop, ap}
use Rattle.std.proofs.lemmas.Result.{on_ok_weaker}
use Rattle.std.specs.Str.{byte}
use Rattle.st_scan.specs.declared.tree.Element.{Element}
use Rattle.st_scan.specs.Views.{content_view, elements_view}
use Rattle.st_print.specs.Words.{opening, mark}
use Rattle.st_print.specs.Printed.{content_words, elements_words}
use Rattle.st_print.proofs.Turning.{put_word, put_then, turn, drop_at}
use Rattle.st_print.proofs.literal.+literals.Goals as goal

pub all_elements-loop-element-preserved : goal.all_elements-loop-element-preserved
all_elements-loop-element-preserved t c =
    let es = c.args.elements.now in
    let i = c.loop-element.element-index in
    let e = c.element-item.result in
    turn c.loop-element.out.items c.literal.new.out.items _ (elements_words (elements_view (drop i es))) (content_words (content_view e.what)) (elements_words (elements_view (drop (i + 1) es)))
    c.loop-element.invariant (ap (λ (xs : List Element). elements_words (elements_view xs)) (drop_at es i e c.loop-element-test.true c.element-item.is)) c.in_ok-literal.ensures

pub array-returns : goal.array-returns
array-returns t c =
    let out = c.args.out.now.items in
    let inside = elements_words (elements_view c.args.elements.now) in
    on_ok_weaker c.put-2.result
    (λ last. put_then out c.all_elements.new.out.items c.put-2.new.out.items (opening ∷ inside) (mark (byte ")") ∷ [])
    (put_then out c.put.new.out.items c.all_elements.new.out.items (opening ∷ []) inside (put_word out c.put.new.out.items opening c.in_ok-put.ensures) c.in_ok-all_elements.ensures)
    (put_word c.all_elements.new.out.items c.put-2.new.out.items (mark (byte ")")) last))
    c.put-2.ensures
