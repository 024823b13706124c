use Rattle.std.proofs.Common.{rules, ◌≡◌, Err, sym, ◌∙◌}
use Rattle.st_frames.specs.inside.Shown.{shown}
use Rattle.st_machine.proofs.Done.{signals_die, signals_made, quiet_goes}
use Rattle.st_machine.proofs.switching.check_process_switch.Goals as goal

pub returns-in_err-signal_newest-clause-does : goal.returns-in_err-signal_newest-clause-does
returns-in_err-signal_newest-clause-does g c =
    let s = shown (g.M.Memory.view c.args.m.now) c.args.f.now c.args.w.now in
    let e : c.from_residual.result ≡ Err c.in_err-signal_newest.field-0.0 = search rules in
    rw e (signals_die s c.in_err-signal_newest.field-0.0 c.in_err-signal_newest.ensures.does)

pub returns-clause-does : goal.returns-clause-does
returns-clause-does g c =
    let s = shown (g.M.Memory.view c.args.m.now) c.args.f.now c.args.w.now in
    let t = shown (g.M.Memory.view c.signal_newest.new.m) c.args.f.now c.signal_newest.new.w in
    signals_made s t c.in_ok-signal_newest.ensures.does ∙ c.switch_if_waiting.ensures.does

pub returns-then-is_quiet-clause-does : goal.returns-then-is_quiet-clause-does
returns-then-is_quiet-clause-does g c = quiet_goes (shown (g.M.Memory.view c.args.m.now) c.args.f.now c.args.w.now) (sym c.if-is_quiet.ensures)
