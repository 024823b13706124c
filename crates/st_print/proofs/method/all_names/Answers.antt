use Rattle.std.proofs.Common.{[], ◌∷◌, refl}
use Rattle.st_scan.specs.Views.{names_view}
use Rattle.st_print.specs.Words.{name}
use Rattle.st_print.specs.Printed.{names_words}
use Rattle.st_print.proofs.Turning.{put_word, turn_at}
use Rattle.st_print.proofs.method.all_names.Goals as goal

pub loop-name-preserved : goal.loop-name-preserved
loop-name-preserved c =
    let n = name c.name-item.result.text.items in
    turn_at (λ ns. names_words (names_view ns)) c.args.names.now c.loop-name.name-index c.name-item.result (n ∷ []) _ _ _ c.loop-name-test.true c.name-item.is refl c.loop-name.invariant
    (put_word _ _ n (rw c.deref.ensures.value at c.in_ok-put.ensures))
