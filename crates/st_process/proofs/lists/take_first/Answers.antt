use Rattle.std.proofs.Common.{rules, arith}
use Rattle.st_model.specs.declared.page.PageObject.TheVariants.{NilObject}
use Rattle.st_model.specs.Processes.{take_first}
use Rattle.st_frames.proofs.Doing.{rows, row-page, pages}
use Rattle.st_process.proofs.lists.take_first.Goals as goal

pub returns-in_err-unlink_first-clause-does : goal.returns-in_err-unlink_first-clause-does
unfolding take_first
returns-in_err-unlink_first-clause-does g c =
    let nil = row-page g.O.Objects.names g.met.O.Objects.tabular NilObject in
    record { does = grind (arith, rows, nil); world = search rules }

pub returns-in_err-store_field-clause-does : goal.returns-in_err-store_field-clause-does
unfolding take_first
returns-in_err-store_field-clause-does g c =
    let nil = row-page g.O.Objects.names g.met.O.Objects.tabular NilObject in
    record { does = grind (arith, rows, nil); world = search rules }

pub returns-clause-does : goal.returns-clause-does
unfolding take_first
returns-clause-does g c =
    let nil = row-page g.O.Objects.names g.met.O.Objects.tabular NilObject in
    record { does = grind (arith, rows, nil); world = search rules }

pub returns-in_err-process-clause-does : goal.returns-in_err-process-clause-does
unfolding take_first
returns-in_err-process-clause-does g c = grind (arith, rows, pages)

pub returns-in_err-last-clause-does : goal.returns-in_err-last-clause-does
unfolding take_first
returns-in_err-last-clause-does g c = grind (arith, rows, pages)
