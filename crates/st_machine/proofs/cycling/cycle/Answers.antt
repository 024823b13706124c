use Rattle.std.proofs.Common.{rules, ◌≡◌, Err, sym, subst}
use Rattle.st_model.specs.inside.Foreseen.{foreseen_cycle}
use Rattle.st_model.specs.inside.Calls.{transition_of}
use Rattle.st_frames.specs.inside.Shown.{shown}
use Rattle.st_machine.specs.inside.Runs.{ending_of}
use Rattle.st_machine.proofs.Foreseeing.{from_switch, switch_dies}
use Rattle.st_machine.proofs.cycling.cycle.Goals as goal

pub returns-in_err-check_process_switch-clause-cycle : goal.returns-in_err-check_process_switch-clause-cycle
returns-in_err-check_process_switch-clause-cycle g c =
    let s = shown (g.M.Memory.view c.args.m.now) c.args.f.now c.args.w.now in
    let e : c.from_residual.result ≡ Err c.in_err-check_process_switch.field-0.0 = search rules in
    subst (λ y. foreseen_cycle s ≡ transition_of ending_of y (shown (g.M.Memory.view c.check_process_switch.new.m) c.check_process_switch.new.f c.check_process_switch.new.w)) (sym e)
    (switch_dies s c.in_err-check_process_switch.field-0.0 c.in_err-check_process_switch.ensures.does)

pub returns-clause-cycle : goal.returns-clause-cycle
returns-clause-cycle g c =
    let start = shown (g.M.Memory.view c.args.m.now) c.args.f.now c.args.w.now in
    let v = g.M.Memory.view c.check_process_switch.new.m in
    let s = shown v c.check_process_switch.new.f c.check_process_switch.new.w in
    from_switch start s _ c.in_ok-check_process_switch.ensures.does c.do_next.ensures.step
