use Rattle.std.proofs.Common.{rules, ◌≡◌, Err, ap, subst, sym, ◌∙◌}
use Rattle.st_model.specs.Machine.{used}
use Rattle.st_model.specs.Table.{table, apart}
use Rattle.st_model.specs.Bytecodes.{step}
use Rattle.st_model.specs.View.{View}
use Rattle.st_draft.specs.inside.Noted.{drafted}
use Rattle.st_frames.specs.inside.Shown.{shown}
use Rattle.st_step.specs.inside.Planned.{Plans}
use Rattle.st_step.proofs.Stepped.{loaded_as, used_after, plan_done, plan_dies, plan_births}
use Rattle.st_step.proofs.stepping.plan.Goals as goal

pub returns-in_err-step_row : goal.returns-in_err-step_row
returns-in_err-step_row g c =
    let v = g.M.Memory.view c.args.m.now in
    let s = shown v c.args.f.now c.args.w.now in
    let new = c.new-draft.ensures in
    let same = loaded_as v c.args.f.now c.args.w.now _ _ c.load-r.result new.table new.head c.load-r.ensures.registers c.load-r.ensures.world in
    let cause = c.in_err-step_row.field-0.0 in
    let e : c.from_residual.result ≡ Err cause = search rules in
    let d = plan_dies (used table v.objects) s _ _ _ _ c.step_row.result same c.step_row.ensures.does.does cause c.in_err-step_row.was in
    let p = subst (λ y. Plans (used table v.objects) ((step apart).run s) y) (sym e) d in
    record { plans = p; births = plan_births s _ (g.met.M.Memory.whole c.args.m.now).places p }

pub returns : goal.returns
returns g c =
    let v = g.M.Memory.view c.args.m.now in
    let s = shown v c.args.f.now c.args.w.now in
    let new = c.new-draft.ensures in
    let same = loaded_as v c.args.f.now c.args.w.now _ _ c.load-r.result new.table new.head c.load-r.ensures.registers c.load-r.ensures.world in
    let demand = c.demand.ensures in
    let base = ap (λ (x : View). x.objects) (c.step_row.ensures.takes.fixed ∙ new.fixed) in
    let p = plan_done (used table v.objects) s _ _ _ _ c.step_row.result same c.step_row.ensures.does.does c.in_ok-step_row.field-0 c.demand.result c.in_ok-step_row.was
    (used_after (drafted (g.M.Memory.view c.step_row.new.m.base.now).objects c.step_row.new.m.notes c.step_row.new.m.exchanges) (g.M.Memory.view c.step_row.new.m.base.now).objects v.objects c.demand.result base demand.entries demand.words) in
    record { plans = p; births = plan_births s _ (g.met.M.Memory.whole c.args.m.now).places p }
