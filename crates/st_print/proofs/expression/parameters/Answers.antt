use Rattle.std.proofs.Common.{List, [], ◌∷◌, ◌++◌, sym, ap, ◌∙◌}
use Rattle.std.proofs.lemmas.Result.{on_ok_weaker}
use Rattle.st_scan.specs.Views.{names_view}
use Rattle.st_print.specs.Words.{Word, bar, spaced}
use Rattle.st_print.specs.Printed.{parameter_words}
use Rattle.st_print.proofs.Turning.{put_word, put_then}
use Rattle.st_print.proofs.Firsts.{some_parameters}
use Rattle.st_print.proofs.expression.parameters.Goals as goal

pub returns : goal.returns
returns c =
    let out = c.args.out.now.items in
    let ns = c.args.names.now in
    on_ok_weaker c.put.result
    (λ last. put_then out c.each_parameter.new.out.items c.put.new.out.items (parameter_words (names_view ns)) (bar ∷ []) c.in_ok-each_parameter.ensures (put_word c.each_parameter.new.out.items c.put.new.out.items bar last)
    ∙ ap (λ (ws : List Word). out ++ spaced ws) (sym (some_parameters ns c.if-is_empty.ensures)))
    c.put.ensures
