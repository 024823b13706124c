use Rattle.st_model.specs.Table.{bounded_table}
use Rattle.st_model.specs.Saving.{store_active}
use Rattle.st_machine.proofs.Done.{row_does}
use Rattle.st_machine.proofs.switch_saving.store_active.Goals as goal

pub returns-clause-does : goal.returns-clause-does
returns-clause-does g c =
    row_does (store_active bounded_table) (g.M.Memory.view c.args.m.now) (g.M.Memory.view c.store_active_row.new.m) c.args.f.now c.args.w.now c.load-r.result c.store_active_row.result
    c.load-r.ensures.registers c.load-r.ensures.world c.store_active_row.ensures.does.does
