use Rattle.std.proofs.Common.{rules, ◌≡◌, Err, sym, subst, ap, ◌∙◌}
use Rattle.st_model.specs.declared.demand.Demand.{Demand}
use Rattle.st_model.specs.Outcomes.{Space, outcome_of}
use Rattle.st_model.specs.Machine.{Went}
use Rattle.st_frames.specs.inside.Shown.{shown}
use Rattle.st_model.specs.inside.Calls.{transition_of}
use Rattle.st_machine.specs.inside.Cycling.{foreseen_step}
use Rattle.st_machine.specs.inside.Runs.{ending_of}
use Rattle.st_machine.proofs.Foreseeing.{cycle_dies, cycle_space, cycle_done, is_foreseen, not_over, over}
use Rattle.st_machine.proofs.cycling.foresee.Goals as goal

pub returns-in_err-demand-clause-step : goal.returns-in_err-demand-clause-step
returns-in_err-demand-clause-step g c =
    let v = g.M.Memory.view c.args.m.now in
    let s = shown v c.args.f.now c.args.w.now in
    let e : c.from_residual.result ≡ Err c.in_err-demand.field-0.0 = search rules in
    subst (λ y. foreseen_step s ≡ transition_of ending_of y s) (sym e) (cycle_dies s c.in_err-demand.field-0.0 c.in_err-demand.ensures.plans)

pub returns-then-not-room-clause-step : goal.returns-then-not-room-clause-step
returns-then-not-room-clause-step g c =
    let v = g.M.Memory.view c.args.m.now in
    let s = shown v c.args.f.now c.args.w.now in
    let d = c.in_ok-demand.demand in
    cycle_space s d c.in_ok-demand.ensures.plans (over v d (sym c.if-not-room.ensures)) ∙ ap (λ (x : Demand). Went (Space d x) s) (sym c.free_space-left.ensures)

pub returns-clause-step : goal.returns-clause-step
returns-clause-step g c =
    let v = g.M.Memory.view c.args.m.now in
    let s = shown v c.args.f.now c.args.w.now in
    let u = g.M.Memory.view c.step-outcome.new.m in
    let z = g.M.Memory.view c.finish.new.m in
    let f = c.step-outcome.new.f in
    cycle_done s (outcome_of c.step-outcome.result) (shown u f c.step-outcome.new.w) (shown z f c.finish.new.w) (is_foreseen s c.in_ok-demand.demand c.in_ok-demand.ensures.plans (not_over v c.in_ok-demand.demand (sym c.if-not-room.ensures)))
    c.step-outcome.ensures.step c.finish.ensures.state
