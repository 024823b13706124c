use Rattle.std.proofs.Common.{[], ◌∷◌, refl}
use Rattle.std.specs.Str.{byte}
use Rattle.st_scan.specs.Views.{names_view}
use Rattle.st_print.specs.Words.{mark, name}
use Rattle.st_print.specs.Printed.{parameter_words}
use Rattle.st_print.proofs.Turning.{put_two, turn_at}
use Rattle.st_print.proofs.expression.each_parameter.Goals as goal

pub loop-name-preserved : goal.loop-name-preserved
loop-name-preserved c =
    let n = c.name-item.result.text.items in
    turn_at (λ ns. parameter_words (names_view ns)) c.args.names.now c.loop-name.name-index c.name-item.result (mark (byte ":") ∷ name n ∷ []) _ _ _ c.loop-name-test.true c.name-item.is refl c.loop-name.invariant
    (put_two _ _ _ (mark (byte ":")) (name n) c.in_ok-put.ensures (rw c.deref.ensures.value at c.in_ok-put-2.ensures))
