use Rattle.std.proofs.Common.{◌≡◌, rules, Err, refl, arith}
use Rattle.st_frames.proofs.Doing.{row-memory, rows}
use Rattle.st_process.proofs.Numbering.{passed-is}
use Rattle.st_process.proofs.Sleeping.{row-died, sleep-unnumbered, sleep-unready, sleep-unlisted, sleep-listed}
use Rattle.st_model.specs.Processes.{sleep}
use Rattle.st_process.proofs.ready.sleep.Goals as goal

pub returns-in_err-number-clause-does : goal.returns-in_err-number-clause-does
returns-in_err-number-clause-does g c =
    let e : c.from_residual-in_err-number.result ≡ Err c.in_err-number.field-0.0 = search rules in
    row-died _ _ _ _ _ _ _ _ _ e refl (sleep-unnumbered g.O.Objects.names _ _ _ _ (passed-is c.in_ok-priority.priority c.in_ok-priority.ensures.low c.in_ok-priority.ensures.high) (c.in_ok-priority.ensures.integer _ (row-memory _ _ _)) _ (c.in_err-number.ensures _))

pub returns-in_err-lists-clause-does : goal.returns-in_err-lists-clause-does
returns-in_err-lists-clause-does g c =
    let e : c.from_residual-in_err-lists.result ≡ Err c.in_err-lists.field-0.0 = search rules in
    row-died _ _ _ _ _ _ _ _ _ e refl (sleep-unready g.O.Objects.names _ _ _ _ (passed-is c.in_ok-priority.priority c.in_ok-priority.ensures.low c.in_ok-priority.ensures.high) (c.in_ok-priority.ensures.integer _ (row-memory _ _ _)) _ (c.in_ok-number.ensures _) _ (c.in_err-lists.ensures _ (row-memory _ _ _)))

pub returns-in_err-list-clause-does : goal.returns-in_err-list-clause-does
returns-in_err-list-clause-does g c =
    let e : c.from_residual-in_err-list.result ≡ Err c.in_err-list.field-0.0 = search rules in
    row-died _ _ _ _ _ _ _ _ _ e refl
    (sleep-unlisted g.O.Objects.names _ _ _ _ (passed-is c.in_ok-priority.priority c.in_ok-priority.ensures.low c.in_ok-priority.ensures.high) (c.in_ok-priority.ensures.integer _ (row-memory _ _ _)) _ (c.in_ok-number.ensures _) _ (c.in_ok-lists.ensures _ (row-memory _ _ _)) _ (c.in_err-list.ensures _ (row-memory _ _ _)))

pub returns-clause-does : goal.returns-clause-does
returns-clause-does g c = record {
  does = sleep-listed g.O.Objects.names _ _ _ _ (passed-is c.in_ok-priority.priority c.in_ok-priority.ensures.low c.in_ok-priority.ensures.high) (c.in_ok-priority.ensures.integer _ (row-memory _ _ _)) _ (c.in_ok-number.ensures _) _ (c.in_ok-lists.ensures _ (row-memory _ _ _)) _ _ (c.in_ok-list.ensures _ (row-memory _ _ _)) c.add_last.ensures.does.does;
  world = c.add_last.ensures.does.world;
}

pub returns-in_err-priority-clause-does : goal.returns-in_err-priority-clause-does
unfolding sleep
returns-in_err-priority-clause-does g c = grind (arith, rows)
