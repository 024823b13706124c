use Rattle.std.proofs.Common.{ℕ, List, [], ◌∷◌, ◌++◌, get_or, ap, ◌∙◌, Vec, Global}
use Rattle.st_changes.proofs.Marks.{put_one, put_two}
use Rattle.st_changes.proofs.writing.put_doubled.Goals as goal
use Rattle.st_changes.proofs.writing.put_doubled.Goals.{then-byte-mark+in_ok-push-2, else-byte-mark}

pub loop-byte-preserved : goal.loop-byte-preserved
loop-byte-preserved c =
    let bytes = c.args.bytes.now in
    let i = c.loop-byte.byte-index in
    let b = get_or bytes i 0 in
    let one = c.in_ok-push.ensures.items ∙ ap (λ (x : List ℕ). x ++ b ∷ []) c.loop-byte.invariant in
    elim c.if-byte-mark.branch [
      | then-byte-mark+in_ok-push-2 w ↦
          ap (λ (v : Vec ℕ Global). v.items) w.text-is
          ∙ w.in_ok-push-2.ensures.items
          ∙ ap (λ (x : List ℕ). x ++ b ∷ []) one
          ∙ put_two c.args.mark c.args.text.now.items bytes i c.loop-byte-test.true w.if-byte-mark.true
      | else-byte-mark w ↦
          ap (λ (v : Vec ℕ Global). v.items) w.text-is
          ∙ one
          ∙ put_one c.args.mark c.args.text.now.items bytes i c.loop-byte-test.true w.if-byte-mark.false
    ]
