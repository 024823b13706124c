use Rattle.std.proofs.Common.{◌∙◌, ap, arith}
use Rattle.st_model.specs.Machine.{Went}
use Rattle.st_frames.proofs.Doing.{row-memory, row-head, row-stored, row-active, rows, pages}
use Rattle.st_process.proofs.ProcessTries.{left-process}
use Rattle.st_model.specs.Processes.{leave_process, let_wait}
use Rattle.st_process.proofs.switching.leave_process.Goals as goal

pub returns-clause-does : goal.returns-clause-does
returns-clause-does g c =
    let m = g.O.Objects.names in
    let first = c.in_ok-store_field.ensures.stores _ (row-memory _ _ c.args.r.now) (row-head _ _ c.args.r.now) ∙ ap (λ s. Went tt s) (row-stored _ _ _ _ c.args.r.now c.in_ok-store_field.ensures.head) in
    let second = c.in_ok-store_field-2.ensures.stores _ (row-memory _ _ c.args.r.now) (row-head _ _ c.args.r.now) ∙ ap (λ s. Went tt s) (row-stored _ _ _ _ c.args.r.now c.in_ok-store_field-2.ensures.head) in
    record {
      does = left-process m _ _ _ _ _ _ _ _ _ (row-active _ _ _) (c.in_ok-old.ensures _ (row-memory _ _ _)) first (c.in_ok-scheduler.ensures _ (row-memory _ _ _)) second (c.page.ensures.page _ (row-memory _ _ _)) c.hold.ensures.does.does;
      world = c.hold.ensures.does.world;
    }

pub returns-in_err-old-clause-does : goal.returns-in_err-old-clause-does
unfolding leave_process let_wait
returns-in_err-old-clause-does g c = grind (arith, rows, pages)

pub returns-in_err-store_field-clause-does : goal.returns-in_err-store_field-clause-does
unfolding leave_process let_wait
returns-in_err-store_field-clause-does g c = grind (arith, rows, pages)

pub returns-in_err-scheduler-clause-does : goal.returns-in_err-scheduler-clause-does
unfolding leave_process let_wait
returns-in_err-scheduler-clause-does g c = grind (arith, rows, pages)

pub returns-in_err-store_field-2-clause-does : goal.returns-in_err-store_field-2-clause-does
unfolding leave_process let_wait
returns-in_err-store_field-2-clause-does g c = grind (arith, rows, pages)
