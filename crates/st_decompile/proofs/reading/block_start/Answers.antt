use Rattle.std.proofs.Common.{Some, None, subst}
use Rattle.std.proofs.lemmas.Result.{IfOk-weaker}
use Rattle.st_decompile.specs.inside.Read.{IsPieceStart}
use Rattle.st_decompile.proofs.Starts.{start_none, start_twice}
use Rattle.st_decompile.proofs.reading.block_start.Goals as goal

pub returns-in-Some : goal.returns-in-Some
returns-in-Some c =
    let old = c.args.items.now.items in
    let mid = c.piece_start.new.items.items in
    IfOk-weaker c.piece_start-in-Some.result _ _
    (λ at is. start_twice old mid c.piece_start-in-Some.new.items.items _ at (subst (IsPieceStart old mid) c.in-Some.is c.in_ok-piece_start.ensures) is)
    c.piece_start-in-Some.ensures

pub returns-in-None : goal.returns-in-None
returns-in-None c =
    let old = c.args.items.now.items in
    let mid = c.piece_start.new.items.items in
    start_none old mid mid (subst (IsPieceStart old mid) c.in-None.is c.in_ok-piece_start.ensures)
