use Rattle.std.proofs.Common.{rules, ◌≡◌, Err}
use Rattle.st_model.specs.Values.{word, value}
use Rattle.st_model.specs.Table.{bounded_table}
use Rattle.st_model.specs.Processes.{leave_process}
use Rattle.st_machine.proofs.Done.{row_goes, row_dies}
use Rattle.st_machine.proofs.switching.leave.Goals as goal

pub returns-in_err-deed-clause-does : goal.returns-in_err-deed-clause-does
returns-in_err-deed-clause-does g c =
    let v = g.M.Memory.view c.args.m.now in
    let e : c.from_residual.result ≡ Err c.in_err-deed.field-0.0 = search rules in
    let x = value c.args.process in
    rw e (row_dies (leave_process bounded_table) (word c.from.result) x c.from.ensures v c.args.f.now c.args.w.now c.load-r.result c.in_err-deed.field-0.0 c.load-r.ensures.registers c.load-r.ensures.world c.in_err-deed.ensures.does.does)

pub returns-clause-does : goal.returns-clause-does
returns-clause-does g c =
    let done = c.carry_out.ensures in
    row_goes (leave_process bounded_table) (word c.from.result) (value c.args.process) c.from.ensures
    (g.M.Memory.view c.args.m.now) (g.M.Memory.view c.leave_process.new.m) (g.M.Memory.view c.carry_out.new.m) c.args.f.now c.args.w.now c.carry_out.new.w c.load-r.result c.in_ok-deed.deed
    c.load-r.ensures.registers c.load-r.ensures.world c.in_ok-deed.ensures.does.does done.objects done.head done.world
