use Rattle.std.proofs.Common.{rules, ◌≡◌, Err, Some, refl, sym, ap, ◌∙◌}
use Rattle.std.specs.Prelude.{Option}
use Rattle.st_model.specs.Values.{Value}
use Rattle.st_model.specs.Outcomes.{Outcome}
use Rattle.st_model.specs.Outcomes as outcome
use Rattle.st_model.specs.Machine.{Went}
use Rattle.st_model.specs.Deeds.{with_deed}
use Rattle.st_model.specs.View.{View}
use Rattle.st_frames.specs.declared.ending.RowEnd.{RowEnd}
use Rattle.st_frames.specs.inside.Rows.{row_state, outcome_in}
use Rattle.st_frames.specs.inside.Shown.{shown}
use Rattle.st_control.proofs.Framed.{ready_after}
use Rattle.st_step.specs.inside.Responding.{outcome_if_any, deed_if_any}
use Rattle.st_step.proofs.Stepped.{done_after}
use Rattle.st_step.proofs.Called.{too_many, row_as, number_there, number_top, view_still, fails}
use Rattle.st_step.proofs.calling.try_primitive.Goals as goal

pub returns-then-args-gt16383-clause-does : goal.returns-then-args-gt16383-clause-does
returns-then-args-gt16383-clause-does g c = too_many c.args.n c.args.args (shown (g.M.Memory.view c.args.m.now) c.args.f.now c.args.w.now) c.requires.ready.frame.sp_high c.if-args-gt16383.true

pub returns-in_err-row-clause-does : goal.returns-in_err-row-clause-does
returns-in_err-row-clause-does g c =
    let e : c.from_residual.result ≡ Err c.in_err-row.field-0.0 = search rules in
    rw e (row_as c.args.n c.from.result c.args.args c.from.ensures (g.M.Memory.view c.args.m.now) c.args.f.now c.args.w.now c.load-r.result c.load-r.ensures.registers c.load-r.ensures.world _ c.in_err-row.ensures.does.does)

pub hold-requires : goal.hold-requires
hold-requires g c =
    let v = g.M.Memory.view c.args.m.now in
    let u = g.M.Memory.view c.tried_number.new.m in
    let r = c.tried_number.new.r in
    number_there c.args.n c.args.args v c.args.f.now c.args.w.now u.objects u.head r (outcome_if_any r c.in_ok-row.row) (deed_if_any r c.in_ok-row.row) (g.met.M.Memory.whole c.args.m.now) c.requires.ready
    (row_as c.args.n c.from.result c.args.args c.from.ensures v c.args.f.now c.args.w.now c.load-r.result c.load-r.ensures.registers c.load-r.ensures.world _ c.in_ok-row.ensures.does.does)

pub trial-requires-clause-frame : goal.trial-requires-clause-frame
trial-requires-clause-frame g c =
    (ready_after (g.M.Memory.view c.hold.new.m) (g.M.Memory.view c.carry_out.new.m) c.hold.result c.carry_out.new.w c.hold.ensures.frame.frame c.carry_out.ensures.held).frame

pub trial-requires-clause-top : goal.trial-requires-clause-top
trial-requires-clause-top g c =
    let v = g.M.Memory.view c.args.m.now in
    let u = g.M.Memory.view c.tried_number.new.m in
    let h = g.M.Memory.view c.hold.new.m in
    let z = g.M.Memory.view c.carry_out.new.m in
    let f = c.args.f.now in
    let w = c.args.w.now in
    let r = c.tried_number.new.r in
    let does = c.in_ok-row.ensures.does in
    let row = row_as c.args.n c.from.result c.args.args c.from.ensures v f w c.load-r.result c.load-r.ensures.registers c.load-r.ensures.world _ does.does in
    let deed = ap (λ (y : Option RowEnd). deed_if_any r y) c.in-Some.is ∙ sym c.deed_in-deed.ensures in
    let left : with_deed (deed_if_any r c.in_ok-row.row) (row_state u.objects u.head r) ≡ shown z c.hold.result c.carry_out.new.w =
    ap (λ d. with_deed d (row_state u.objects u.head r)) deed
    ∙ done_after u h z c.hold.result w c.carry_out.new.w r c.deed_in-deed.result c.hold.ensures.same (does.world ∙ c.load-r.ensures.world) c.hold.ensures.objects c.hold.ensures.head c.carry_out.ensures.objects c.carry_out.ensures.head c.carry_out.ensures.world in
    let came : outcome_if_any r c.in_ok-row.row ≡ Some (outcome_in r c.in-Some.end) = ap (λ (y : Option RowEnd). outcome_if_any r y) c.in-Some.is in
    let went = row ∙ (λ i. Went (came i) (left i)) in
    (r, (c.carry_out.new.w, λ x says. number_top c.args.n c.args.args (shown v f w) (shown z c.hold.result c.carry_out.new.w) x (went ∙ ap (λ (o : Outcome). Went (Some o) (shown z c.hold.result c.carry_out.new.w)) says)))

pub returns-in-Some-clause-does : goal.returns-in-Some-clause-does
returns-in-Some-clause-does g c =
    let v = g.M.Memory.view c.args.m.now in
    let u = g.M.Memory.view c.tried_number.new.m in
    let h = g.M.Memory.view c.hold.new.m in
    let z = g.M.Memory.view c.carry_out.new.m in
    let f = c.args.f.now in
    let w = c.args.w.now in
    let r = c.tried_number.new.r in
    let does = c.in_ok-row.ensures.does in
    let row = row_as c.args.n c.from.result c.args.args c.from.ensures v f w c.load-r.result c.load-r.ensures.registers c.load-r.ensures.world _ does.does in
    let deed = ap (λ (y : Option RowEnd). deed_if_any r y) c.in-Some.is ∙ sym c.deed_in-deed.ensures in
    let left : with_deed (deed_if_any r c.in_ok-row.row) (row_state u.objects u.head r) ≡ shown z c.hold.result c.carry_out.new.w =
    ap (λ d. with_deed d (row_state u.objects u.head r)) deed
    ∙ done_after u h z c.hold.result w c.carry_out.new.w r c.deed_in-deed.result c.hold.ensures.same (does.world ∙ c.load-r.ensures.world) c.hold.ensures.objects c.hold.ensures.head c.carry_out.ensures.objects c.carry_out.ensures.head c.carry_out.ensures.world in
    let came : outcome_if_any r c.in_ok-row.row ≡ Some (outcome_in r c.in-Some.end) = ap (λ (y : Option RowEnd). outcome_if_any r y) c.in-Some.is in
    let went = row ∙ (λ i. Went (came i) (left i)) in
    let top = λ (x : Value) (says : outcome_in r c.in-Some.end ≡ outcome.Say x). number_top c.args.n c.args.args (shown v f w) (shown z c.hold.result c.carry_out.new.w) x (went ∙ ap (λ (o : Outcome). Went (Some o) (shown z c.hold.result c.carry_out.new.w)) says) in
    went ∙ ap (λ (o : Option Outcome). Went o (shown z c.hold.result c.carry_out.new.w)) (sym (c.trial.ensures.outcome r (c.carry_out.new.w, top)))

pub returns-in-None-clause-does : goal.returns-in-None-clause-does
returns-in-None-clause-does g c =
    let v = g.M.Memory.view c.args.m.now in
    let u = g.M.Memory.view c.tried_number.new.m in
    let row = row_as c.args.n c.from.result c.args.args c.from.ensures v c.args.f.now c.args.w.now c.load-r.result c.load-r.ensures.registers c.load-r.ensures.world _ c.in_ok-row.ensures.does.does in
    fails c.args.n c.args.args u v c.args.f.now c.args.w.now c.in_ok-row.row c.tried_number.new.r c.load-r.result c.in-None.is (c.in_ok-row.ensures.still c.in-None.is) c.load-r.ensures.registers c.load-r.ensures.world row

pub returns-in-None-clause-still : goal.returns-in-None-clause-still
returns-in-None-clause-still g c e =
    let v = g.M.Memory.view c.args.m.now in
    let u = g.M.Memory.view c.tried_number.new.m in
    (view_still c.args.n c.args.args u v c.args.f.now c.args.w.now c.in_ok-row.row c.tried_number.new.r c.load-r.result c.in-None.is (c.in_ok-row.ensures.still c.in-None.is) c.load-r.ensures.registers c.load-r.ensures.world (ap (λ (x : View). x.held) c.in_ok-row.ensures.takes.fixed), refl, refl)

pub returns-in-Some-clause-still : goal.returns-in-Some-clause-still
returns-in-Some-clause-still g c e = absurd (c.trial.ensures.succeeded e)
