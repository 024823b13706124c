use Rattle.std.proofs.Common.{arith, refl}
use Rattle.st_bitblt.proofs.RowLaws.{down_start, down_step, down_skip, down_end}
use Rattle.st_bitblt.proofs.rows.copy_rows.Goals as goal

pub loop-j-init : goal.loop-j-init
loop-j-init g c = down_start _ _ _ _ _ _ _ refl c.copy_from_top.ensures

pub loop-j-preserved-then-q-p : goal.loop-j-preserved-then-q-p
loop-j-preserved-then-q-p g c =
    down_step _ _ _ _ _ _ _ _ _ _ _ c.requires.dest c.tone.ensures c.place-p.ensures c.place-q.ensures c.requires.wide c.requires.narrow c.if-q-p.true (omega arith) (omega arith) c.loop-j.invariant c.copy_row.ensures

pub loop-j-preserved : goal.loop-j-preserved
loop-j-preserved g c = down_skip _ _ _ _ _ _ _ _ _ c.place-p.ensures c.place-q.ensures c.if-q-p.false (omega arith) (omega arith) c.loop-j.invariant

pub returns : goal.returns
returns g c = down_end _ _ _ _ _ _ c.loop-j.j (omega arith) c.loop-j.invariant
