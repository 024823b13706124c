use Rattle.std.proofs.Common.{arith, ◌<◌}
use Rattle.st_bitblt.proofs.RowLaws.{no_rows, up_step, up_skip}
use Rattle.st_bitblt.proofs.rows.copy_from_top.Goals as goal
use Rattle.st_bitblt.proofs.rows.copy_from_top.Goals.{then-p-q, else-p-q}

pub loop-j-init : goal.loop-j-init
loop-j-init g c = no_rows _ _ _ _ _ _ c.requires.dest (λ j d. let l : j < 0 = d.0 in omega arith)

pub loop-j-preserved : goal.loop-j-preserved
loop-j-preserved g c =
    elim c.if-p-q.branch [
      | then-p-q w ↦ rw w.m-is (up_step _ _ _ _ _ _ _ _ _ _ _ c.requires.dest w.tone.ensures c.place-p.ensures c.place-q.ensures c.requires.wide w.if-p-q.true c.loop-j.invariant w.copy_row.ensures)
      | else-p-q w ↦ rw w.m-is (up_skip _ _ _ _ _ _ _ _ _ c.place-p.ensures c.place-q.ensures w.if-p-q.false c.loop-j.invariant)
    ]
