use Rattle.std.proofs.Common.{◌∙◌, ap, sym}
use Rattle.st_model.specs.Machine.{Went}
use Rattle.st_model.specs.Table.{bounded_table}
use Rattle.st_model.specs.Bytecodes.{step}
use Rattle.st_model.specs.View.{View}
use Rattle.st_frames.specs.inside.Rows.{outcome_in, deed_in}
use Rattle.st_frames.specs.inside.Shown.{shown}
use Rattle.st_control.proofs.Framed.{ready_after}
use Rattle.st_step.proofs.Foreseeing.{goes, goes_dead}
use Rattle.st_step.proofs.Stepped.{from_row, carried_out, there_after}
use Rattle.st_step.proofs.stepping.step.Goals as goal

pub unreachable-requires : goal.unreachable-requires
unreachable-requires g c =
    let v = g.M.Memory.view c.args.m.now in
    let f = c.args.f.now in
    let w = c.args.w.now in
    goes_dead (shown v f w) (goes v f w (g.met.M.Memory.whole c.args.m.now) c.requires.ready c.requires.foreseen) _
    (from_row (step bounded_table) v f w c.load-r.result _ c.load-r.ensures.registers c.load-r.ensures.world c.in-Err.ensures.does.does)

pub hold-requires : goal.hold-requires
hold-requires g c =
    let v = g.M.Memory.view c.args.m.now in
    let u = g.M.Memory.view c.step_row.new.m in
    let f = c.args.f.now in
    let w = c.args.w.now in
    let r = c.step_row.new.r in
    there_after v f w u.objects u.head r (outcome_in r c.in-Ok.end) (deed_in r c.in-Ok.end) (g.met.M.Memory.whole c.args.m.now) c.requires.ready
    (from_row (step bounded_table) v f w c.load-r.result _ c.load-r.ensures.registers c.load-r.ensures.world c.in-Ok.ensures.does.does)

pub carry_out-requires : goal.carry_out-requires
carry_out-requires g c = record { named = c.hold.ensures.frame.devices ∙ (ap (λ (v : View). v.held.devices) c.in-Ok.ensures.takes.fixed ∙ c.requires.ready.devices) }

pub outcome-requires-clause-frame : goal.outcome-requires-clause-frame
outcome-requires-clause-frame g c =
    (ready_after (g.M.Memory.view c.hold.new.m) (g.M.Memory.view c.carry_out.new.m) c.hold.result c.carry_out.new.w c.hold.ensures.frame.frame c.carry_out.ensures.held).frame

pub outcome-requires-clause-ended : goal.outcome-requires-clause-ended
outcome-requires-clause-ended g c =
    let v = g.M.Memory.view c.args.m.now in
    let held = c.hold.ensures in
    let done = c.carry_out.ensures in
    let does = c.in-Ok.ensures.does in (
      c.step_row.new.r,
      (
        c.carry_out.new.w,
        shown v c.args.f.now c.args.w.now,
        carried_out v (g.M.Memory.view c.step_row.new.m) (g.M.Memory.view c.hold.new.m) (g.M.Memory.view c.carry_out.new.m) c.args.f.now c.hold.result c.args.w.now c.carry_out.new.w
            c.load-r.result c.step_row.new.r c.in-Ok.end c.deed_in-deed.result c.load-r.ensures.registers c.load-r.ensures.world does.does c.deed_in-deed.ensures held.same does.world held.objects held.head
            done.objects done.head done.world,
      ),
    )

pub returns-clause-step : goal.returns-clause-step
returns-clause-step g c =
    let v = g.M.Memory.view c.args.m.now in
    let z = g.M.Memory.view c.carry_out.new.m in
    let held = c.hold.ensures in
    let done = c.carry_out.ensures in
    let does = c.in-Ok.ensures.does in
    let s = shown v c.args.f.now c.args.w.now in
    let went =
    carried_out v (g.M.Memory.view c.step_row.new.m) (g.M.Memory.view c.hold.new.m) z c.args.f.now c.hold.result c.args.w.now c.carry_out.new.w
    c.load-r.result c.step_row.new.r c.in-Ok.end c.deed_in-deed.result c.load-r.ensures.registers c.load-r.ensures.world does.does c.deed_in-deed.ensures held.same does.world held.objects held.head
    done.objects done.head done.world in
    went ∙ ap (λ x. Went x (shown z c.hold.result c.carry_out.new.w)) (sym (c.outcome.ensures c.step_row.new.r (c.carry_out.new.w, s, went)))

pub returns-clause-ready : goal.returns-clause-ready
returns-clause-ready g c = ready_after (g.M.Memory.view c.hold.new.m) (g.M.Memory.view c.carry_out.new.m) c.hold.result c.carry_out.new.w c.hold.ensures.frame.frame c.carry_out.ensures.held
