use Rattle.std.proofs.Common.{List, [], ◌∷◌, ◌++◌, sym, ap, ◌∙◌}
use Rattle.std.proofs.lemmas.Result.{on_ok_weaker}
use Rattle.st_scan.specs.Views.{names_view}
use Rattle.st_print.specs.Words.{Word, bar, spaced}
use Rattle.st_print.specs.Printed.{names_words}
use Rattle.st_print.proofs.Turning.{put_word, put_then}
use Rattle.st_print.proofs.Firsts.{some_temporaries}
use Rattle.st_print.proofs.method.temporaries.Goals as goal

pub returns : goal.returns
returns c =
    let out = c.args.out.now.items in
    let ns = c.args.names.now in
    let inside = names_words (names_view ns) in
    on_ok_weaker c.put-2.result
    (λ last. put_then out c.all_names.new.out.items c.put-2.new.out.items (bar ∷ inside) (bar ∷ [])
    (put_then out c.put.new.out.items c.all_names.new.out.items (bar ∷ []) inside (put_word out c.put.new.out.items bar c.in_ok-put.ensures) c.in_ok-all_names.ensures)
    (put_word c.all_names.new.out.items c.put-2.new.out.items bar last)
    ∙ ap (λ (ws : List Word). out ++ spaced ws) (sym (some_temporaries ns c.if-is_empty.ensures)))
    c.put-2.ensures
