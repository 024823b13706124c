use Rattle.std.proofs.Common.{◌≡◌, false, List, ◌++◌, length, sym, ap, ◌∙◌}
use Rattle.std.proofs.lemmas.Result.{on_ok_weaker}
use Rattle.std.specs.Prelude.{◌==◌}
use Rattle.std.proofs.lemmas.Bool.{ne_eqb}
use Rattle.st_scan.specs.declared.tree.Name.{Name}
use Rattle.st_scan.specs.declared.tree.Statement.{Statement}
use Rattle.st_scan.specs.Views.{names_view, statements_view}
use Rattle.st_print.specs.Words.{Word, spaced}
use Rattle.st_print.specs.Printed.{temporaries_words, primitive_words, options_words, statements_words}
use Rattle.st_print.proofs.Turning.{put_then}
use Rattle.st_print.proofs.Signed.{some_options}
use Rattle.st_print.proofs.method.behind_pattern.Goals as goal

pub returns-else-len-pattern : goal.returns-else-len-pattern
returns-else-len-pattern c =
    let out = c.args.out.now.items in
    let tree = c.args.t.now in
    let ts = temporaries_words (names_view tree.temporaries.items) in
    let ps = primitive_words tree.primitive in
    let os = options_words (names_view tree.temporaries.items) tree.primitive in
    let ss = statements_words (statements_view tree.body.items) in
    let middle = c.primitive.new.out.items in
    let options : middle ≡ out ++ spaced os =
    put_then out c.temporaries.new.out.items middle ts ps (c.in_ok-temporaries.ensures ∙ ap (λ (ns : List Name). out ++ spaced (temporaries_words (names_view ns))) c.deref.ensures.value) c.in_ok-primitive.ensures in
    let longer : false ≡ (length middle == length out) =
    sym (ne_eqb (length middle) (length out) (λ same. c.if-len-pattern.false (c.len.ensures ∙ c.primitive.new.out.ok.0 ∙ same ∙ sym (c.len-pattern.ensures ∙ c.args.out.now.ok.0)))) in
    on_ok_weaker c.statements.result
    (λ last. put_then out middle c.statements.new.out.items os ss options (last ∙ ap (λ (xs : List Statement). middle ++ spaced (statements_words (statements_view xs))) c.deref-else-len-pattern.ensures.value)
    ∙ ap (λ (ws : List Word). out ++ spaced ws) (sym (some_options out middle os ss options longer)))
    c.statements.ensures
