use Rattle.std.proofs.Common.{rules, ◌≡◌, Err, arith}
use Rattle.st_frames.specs.inside.Rows.{row_state}
use Rattle.st_frames.proofs.Doing.{row-memory}
use Rattle.st_storage.proofs.Left.{fetched-of, counted-of, bytes-unfetched, bytes-unfetchable}
use Rattle.st_frames.proofs.BytesLeft.{bytes-unsized}
use Rattle.st_storage.proofs.replacing.find_source.Goals as goal

pub returns-in_err-fetch_byte-clause-does : goal.returns-in_err-fetch_byte-clause-does
returns-in_err-fetch_byte-clause-does g c =
    let q : c.from_residual.result ≡ Err c.in_err-fetch_byte.field-0.0 = search rules in
    rw q (bytes-unfetched g.O.Objects.names g.met.O.Objects.tabular _ _ _ _ _ (omega arith) (c.in_err-fetch_byte.ensures _ (row-memory _ _ _)))

pub returns-in_err-size-clause-does : goal.returns-in_err-size-clause-does
returns-in_err-size-clause-does g c =
    let s = row_state (g.O.Objects.table c.args.m.now) (g.O.Objects.head c.args.m.now) c.args.r.now in
    let q : s.memory ≡ g.O.Objects.table c.args.m.now = row-memory (g.O.Objects.table c.args.m.now) (g.O.Objects.head c.args.m.now) c.args.r.now in
    absurd (bytes-unsized g.O.Objects.names g.met.O.Objects.tabular _ _ s _ _ (c.in_ok-fetch_byte.ensures s q) (c.in_err-size.ensures.size s q))

pub returns-then-size-i-clause-does : goal.returns-then-size-i-clause-does
returns-then-size-i-clause-does g c =
    bytes-unfetchable g.O.Objects.names g.met.O.Objects.tabular _ _ _ _ _ _ (c.in_ok-fetch_byte.ensures _ (row-memory _ _ _)) (c.in_ok-size.ensures.size _ (row-memory _ _ _)) (omega arith)

pub returns-else-size-i-clause-does : goal.returns-else-size-i-clause-does
returns-else-size-i-clause-does g c =
    let s = row_state (g.O.Objects.table c.args.m.now) (g.O.Objects.head c.args.m.now) c.args.r.now in
    let q : s.memory ≡ g.O.Objects.table c.args.m.now = row-memory (g.O.Objects.table c.args.m.now) (g.O.Objects.head c.args.m.now) c.args.r.now in
    fetched-of g.O.Objects.names g.met.O.Objects.tabular _ _ _ s _ _ _ q (c.in_ok-fetch_byte.ensures s q) (c.in_ok-size.ensures.size s q) (c.requires.bytes s q) (omega arith)

pub returns-else-size-i-clause-all : goal.returns-else-size-i-clause-all
returns-else-size-i-clause-all g c =
    let s = row_state (g.O.Objects.table c.args.m.now) (g.O.Objects.head c.args.m.now) c.args.r.now in
    let q : s.memory ≡ g.O.Objects.table c.args.m.now = row-memory (g.O.Objects.table c.args.m.now) (g.O.Objects.head c.args.m.now) c.args.r.now in
    counted-of g.O.Objects.names g.met.O.Objects.tabular _ _ _ s _ _ _ q (c.in_ok-fetch_byte.ensures s q) (c.in_ok-size.ensures.size s q) (c.requires.bytes s q) (omega arith)
