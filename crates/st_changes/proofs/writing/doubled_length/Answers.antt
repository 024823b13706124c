use Rattle.std.proofs.Common.{◌≡◌, ◌+◌, [], ◌∷◌, length, take, get_or, ap, ◌∙◌, arith, length-append}
use Rattle.st_changes.specs.inside.Runs.{doubled_by}
use Rattle.st_changes.proofs.Marks.{by_next, one_mark, one_other}
use Rattle.st_changes.proofs.writing.doubled_length.Goals as goal
use Rattle.st_changes.proofs.writing.doubled_length.Goals.{then-byte-mark, else-byte-mark}

pub loop-byte-preserved : goal.loop-byte-preserved
loop-byte-preserved c =
    let bytes = c.args.bytes.now in
    let q = c.args.mark in
    let i = c.loop-byte.byte-index in
    let b = get_or bytes i 0 in
    let inv = c.loop-byte.invariant in
    let next : length (doubled_by q (take (i + 1) bytes)) ≡ length (doubled_by q (take i bytes)) + length (doubled_by q (b ∷ [])) =
    ap length (by_next q bytes i c.loop-byte-test.true) ∙ length-append (doubled_by q (take i bytes)) (doubled_by q (b ∷ [])) in
    elim c.if-byte-mark.branch [
      | then-byte-mark w ↦
          let two = ap length (one_mark q b w.if-byte-mark.true) in
          record { exact = omega (arith, next, two, w.length-is, inv.exact); most = omega (arith, w.length-is, inv.most); least = omega (arith, w.length-is, inv.least) }
      | else-byte-mark w ↦
          let one = ap length (one_other q b w.if-byte-mark.false) in
          record { exact = omega (arith, next, one, w.length-is, inv.exact); most = omega (arith, w.length-is, inv.most); least = omega (arith, w.length-is, inv.least) }
    ]
