use Rattle.std.proofs.Common.{length, ap, ◌∙◌, arith}
use Rattle.std.proofs.lemmas.List.{take_all}
use Rattle.std.proofs.lemmas.Bool.Decides.{nat_tests}
use Rattle.st_browse.specs.Sources.{lines_of}
use Rattle.st_browse.proofs.Sourcing.{line_more, line_same}
use Rattle.st_browse.proofs.source.count_lines.Goals as goal
use Rattle.st_browse.proofs.source.count_lines.Goals.{then-byte-eq10, else-byte-eq10}

pub loop-byte-preserved : goal.loop-byte-preserved
loop-byte-preserved c =
    let text = c.args.text.now in
    let i = c.loop-byte.byte-index in
    let inv = c.loop-byte.invariant in
    elim c.if-byte-eq10.branch [
      | then-byte-eq10 w ↦
          let next = line_more text i c.loop-byte-test.true (grind (arith, nat_tests, w.if-byte-eq10.true)) in
          record { exact = omega (arith, next, w.count-is, inv.exact); most = omega (arith, w.count-is, inv.most) }
      | else-byte-eq10 w ↦
          let next = line_same text i c.loop-byte-test.true (grind (arith, nat_tests, w.if-byte-eq10.false)) in
          record { exact = omega (arith, next, w.count-is, inv.exact); most = omega (arith, w.count-is, inv.most) }
    ]

pub returns : goal.returns
returns c = c.loop-byte.invariant.exact ∙ ap (λ t. length (lines_of t)) (take_all c.loop-byte.byte-index c.args.text.now c.loop-byte-test.false)
