use Rattle.std.proofs.Common.{sym, ap, ◌∙◌}
use Rattle.st_model.specs.Values.{value}
use Rattle.st_model.specs.Machine.{World}
use Rattle.st_model.specs.Table.{bounded_table}
use Rattle.st_model.specs.Processes.{signal}
use Rattle.st_frames.specs.inside.Shown.{shown}
use Rattle.st_machine.proofs.Done.{next_made, next_none}
use Rattle.st_machine.proofs.signals.signal_next.Goals as goal

pub returns-in-Some-clause-does : goal.returns-in-Some-clause-does
returns-in-Some-clause-does g c =
    let v = g.M.Memory.view c.args.m.now in
    let u = g.M.Memory.view c.take_newest_signal.new.m in
    let took = c.take_newest_signal.ensures in
    let x = value c.in-Some.semaphore in
    next_made v u c.args.f.now c.args.w.now x took.objects took.head (sym c.in-Some.ensures.newest)
    ∙ (ap (λ (w : World). (signal bounded_table x).run (shown u c.args.f.now w)) (sym took.world) ∙ c.make_signal.ensures.does)

pub returns-in-None-clause-does : goal.returns-in-None-clause-does
returns-in-None-clause-does g c =
    let took = c.take_newest_signal.ensures in
    next_none (g.M.Memory.view c.args.m.now) (g.M.Memory.view c.take_newest_signal.new.m) c.args.f.now c.args.w.now c.take_newest_signal.new.w took.objects took.head (sym c.in-None.ensures.newest) took.world
