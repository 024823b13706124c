use Rattle.std.proofs.Common.{◌*◌, take, drop, ap}
use Rattle.std.specs.Prelude.{codes}
use Rattle.std.specs.List.{flat_map}
use Rattle.st_model.specs.Values.{value}
use Rattle.st_call.proofs.Pushing.{push_then, push_begun, push_as}
use Rattle.st_browse.specs.Display.{word_text}
use Rattle.st_browse.specs.inside.Shown.{words_in}
use Rattle.st_browse.proofs.display.push_row.Goals as goal

pub returns-in_err-push : goal.returns-in_err-push
returns-in_err-push g c = push_begun _ c.from_residual.ensures.0 c.in_err-push.ensures

pub returns-in_err-push_words : goal.returns-in_err-push_words
returns-in_err-push_words g c =
    let us = words_in (g.M.Memory.view c.args.m.now).objects (value c.args.form.bits) in
    let e = ap (λ n. flat_map word_text (take n (drop (c.args.y * n) us))) c.row_words-words.ensures.words in
    push_then c.in_ok-push.ensures (push_begun (codes "\n") c.from_residual-in_err-push_words.ensures.0 (push_as c.in_err-push_words.ensures e))

pub returns : goal.returns
returns g c =
    let us = words_in (g.M.Memory.view c.args.m.now).objects (value c.args.form.bits) in
    let e = ap (λ n. flat_map word_text (take n (drop (c.args.y * n) us))) c.row_words-words.ensures.words in
    push_then c.in_ok-push.ensures (push_then (push_as c.in_ok-push_words.ensures e) c.push-2.ensures)
