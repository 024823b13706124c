use Rattle.std.proofs.Common.{rules, ◌≡◌, Err, arith}
use Rattle.st_frames.specs.inside.Rows.{row_state}
use Rattle.st_frames.proofs.Doing.{row-memory}
use Rattle.st_frames.proofs.BytesLeft.{bytes-left, bytes-past, bytes-unleft, bytes-unsized, some_more}
use Rattle.st_frames.proofs.large.find_bytes.Goals as goal

pub returns-in_err-fetch_byte : goal.returns-in_err-fetch_byte
returns-in_err-fetch_byte g c = λ bs e.
    let q : c.from_residual.result ≡ Err c.in_err-fetch_byte.field-0.0 = search rules in
    rw q (bytes-unleft g.O.Objects.names g.met.O.Objects.tabular _ _ bs _ _ (some_more bs c.args.n e c.requires.some) (c.in_err-fetch_byte.ensures _ (row-memory _ _ _)))

pub returns-in_err-size : goal.returns-in_err-size
returns-in_err-size g c = λ bs e.
    let s = row_state (g.O.Objects.table c.args.m.now) (g.O.Objects.head c.args.m.now) c.args.r.now in
    let q : s.memory ≡ g.O.Objects.table c.args.m.now = row-memory (g.O.Objects.table c.args.m.now) (g.O.Objects.head c.args.m.now) c.args.r.now in
    absurd (bytes-unsized g.O.Objects.names g.met.O.Objects.tabular _ _ s _ _ (c.in_ok-fetch_byte.ensures s q) (c.in_err-size.ensures.size s q))

pub returns-then-size-i : goal.returns-then-size-i
returns-then-size-i g c = λ bs e.
    bytes-past g.O.Objects.names g.met.O.Objects.tabular _ _ bs _ _ _ (c.in_ok-fetch_byte.ensures _ (row-memory _ _ _)) (c.in_ok-size.ensures.size _ (row-memory _ _ _)) (omega (arith, e))

pub returns-else-size-i : goal.returns-else-size-i
returns-else-size-i g c = λ bs e.
    bytes-left g.O.Objects.names g.met.O.Objects.tabular _ _ bs _ _ _ (c.in_ok-fetch_byte.ensures _ (row-memory _ _ _)) (c.in_ok-size.ensures.size _ (row-memory _ _ _)) (omega (arith, e))
