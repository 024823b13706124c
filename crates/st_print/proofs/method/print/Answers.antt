use Rattle.std.proofs.Common.{◌≡◌, ℕ, List, [], ◌++◌, drop, sym, ap, ◌∙◌}
use Rattle.std.proofs.lemmas.Result.{IfOk-weaker}
use Rattle.st_scan.specs.declared.tree.Name.{Name}
use Rattle.st_scan.specs.Views.{names_view, statements_view, method_view}
use Rattle.st_print.specs.Words.{spaced}
use Rattle.st_print.specs.Printed.{pattern_words, behind_pattern, options_words, statements_words, method_words}
use Rattle.st_print.proofs.Spacing.{text_behind}
use Rattle.st_print.proofs.Turning.{put_then}
use Rattle.st_print.proofs.method.print.Goals as goal

pub returns : goal.returns
returns c =
    let tree = c.args.t.now in
    let ps = pattern_words tree.selector.items (names_view tree.arguments.items) in
    let bs = behind_pattern (options_words (names_view tree.temporaries.items) tree.primitive) (statements_words (statements_view tree.body.items)) in
    let pattern : c.pattern.new.out.items ≡ [] ++ spaced ps =
    c.in_ok-pattern.ensures
    ∙ ap (λ (x : List ℕ). x ++ spaced (pattern_words c.deref.result.now (names_view c.deref-2.result.now))) c.new-out.ensures.items
    ∙ ap (λ (x : List ℕ). [] ++ spaced (pattern_words x (names_view c.deref-2.result.now))) c.deref.ensures.value
    ∙ ap (λ (ns : List Name). [] ++ spaced (pattern_words tree.selector.items (names_view ns))) c.deref-2.ensures.value in
    IfOk-weaker c.behind_first.result _ _
    (λ text is. is
    ∙ ap (drop 1) (c.deref-3.ensures.value ∙ put_then [] c.pattern.new.out.items c.behind_pattern.new.out.items ps bs pattern c.in_ok-behind_pattern.ensures)
    ∙ sym (text_behind (method_words (method_view tree))))
    c.behind_first.ensures
