use Rattle.std.proofs.Common.{sym, ap, ◌∙◌}
use Rattle.st_model.specs.Values.{Value}
use Rattle.st_model.specs.Table.{bounded_table}
use Rattle.st_model.specs.Processes.{switch_to_process}
use Rattle.st_frames.specs.inside.Shown.{shown}
use Rattle.st_machine.proofs.Done.{waits, waits_not}
use Rattle.st_machine.proofs.switching.switch_if_waiting.Goals as goal

pub returns-then-holds-clause-does : goal.returns-then-holds-clause-does
returns-then-holds-clause-does g c =
    let s = shown (g.M.Memory.view c.args.m.now) c.args.f.now c.args.w.now in
    waits s (sym c.if-holds.ensures) ∙ (ap (λ (p : Value). (switch_to_process bounded_table p).run s) (sym c.device-process.ensures) ∙ c.switch_to.ensures.does)

pub returns-else-holds-clause-does : goal.returns-else-holds-clause-does
returns-else-holds-clause-does g c = waits_not (shown (g.M.Memory.view c.args.m.now) c.args.f.now c.args.w.now) (sym c.if-holds.ensures)
