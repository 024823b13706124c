use Rattle.std.proofs.Common.{rules, arith}
use Rattle.st_model.specs.declared.page.PageObject.TheVariants.{NilObject}
use Rattle.st_model.specs.Processes.{add_last}
use Rattle.st_frames.proofs.Doing.{rows, row-page, pages}
use Rattle.st_process.proofs.lists.add_last.Goals as goal

pub returns-in_err-link_first-clause-does : goal.returns-in_err-link_first-clause-does
unfolding add_last
returns-in_err-link_first-clause-does g c =
    let nil = row-page g.O.Objects.names g.met.O.Objects.tabular NilObject in
    record { does = grind (arith, rows, nil); world = search rules }

pub returns-in_err-store_field-clause-does : goal.returns-in_err-store_field-clause-does
unfolding add_last
returns-in_err-store_field-clause-does g c =
    let nil = row-page g.O.Objects.names g.met.O.Objects.tabular NilObject in
    record { does = grind (arith, rows, nil); world = search rules }

pub returns-clause-does : goal.returns-clause-does
unfolding add_last
returns-clause-does g c =
    let nil = row-page g.O.Objects.names g.met.O.Objects.tabular NilObject in
    record { does = grind (arith, rows, nil); world = search rules }

pub returns-in_err-first-clause-does : goal.returns-in_err-first-clause-does
unfolding add_last
returns-in_err-first-clause-does g c = grind (arith, rows, pages)
