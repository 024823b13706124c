use Rattle.std.proofs.Common.{rules, ◌≡◌, Err, ap, ◌∙◌}
use Rattle.st_model.specs.Values.{word, value}
use Rattle.st_model.specs.Machine.{State, Went}
use Rattle.st_model.specs.Table.{Table, bounded_table}
use Rattle.st_model.specs.Processes.{enter_process}
use Rattle.st_model.specs.View.{View}
use Rattle.st_frames.specs.inside.Shown.{shown}
use Rattle.st_machine.proofs.Done.{row_dies, row_ends, switched, not_left, there_after, held_again}
use Rattle.st_machine.proofs.switching.switch_to.Goals as goal

pub returns-in_err-leave-clause-does : goal.returns-in_err-leave-clause-does
returns-in_err-leave-clause-does g c =
    let s = shown (g.M.Memory.view c.args.m.now) c.args.f.now c.args.w.now in
    let p = value c.args.process in
    let e : c.from_residual.result ≡ Err c.in_err-leave.field-0.0 = search rules in
    rw e (not_left p s c.in_err-leave.field-0.0 c.in_err-leave.ensures.does)

pub returns-in_err-enter_process-clause-does : goal.returns-in_err-enter_process-clause-does
returns-in_err-enter_process-clause-does g c =
    let s = shown (g.M.Memory.view c.args.m.now) c.args.f.now c.args.w.now in
    let u = g.M.Memory.view c.leave.new.m in
    let t = shown u c.args.f.now c.leave.new.w in
    let p = value c.args.process in
    let e : c.from_residual-in_err-enter_process.result ≡ Err c.in_err-enter_process.field-0.0 = search rules in
    rw e (switched p s t c.in_ok-leave.ensures.does
    ∙ row_dies (enter_process bounded_table) (word c.from.result) p c.from.ensures u c.args.f.now c.leave.new.w c.load-r.result c.in_err-enter_process.field-0.0 c.load-r.ensures.registers c.load-r.ensures.world c.in_err-enter_process.ensures.does.does)

pub hold-requires : goal.hold-requires
hold-requires g c =
    let v = g.M.Memory.view c.args.m.now in
    let u = g.M.Memory.view c.leave.new.m in
    let z = g.M.Memory.view c.enter_process.new.m in
    let p = value c.args.process in
    there_after p v c.args.f.now c.args.w.now z.objects z.head c.enter_process.new.r (g.met.M.Memory.whole c.args.m.now) c.requires.ready
    (switched p (shown v c.args.f.now c.args.w.now) (shown u c.args.f.now c.leave.new.w) c.in_ok-leave.ensures.does
    ∙ row_ends (enter_process bounded_table) (word c.from.result) p c.from.ensures u z c.args.f.now c.leave.new.w c.load-r.result c.enter_process.new.r c.load-r.ensures.registers c.load-r.ensures.world c.in_ok-enter_process.ensures.does.does)

pub returns-clause-does : goal.returns-clause-does
returns-clause-does g c =
    let v = g.M.Memory.view c.args.m.now in
    let u = g.M.Memory.view c.leave.new.m in
    let z = g.M.Memory.view c.enter_process.new.m in
    let p = value c.args.process in
    let held = c.hold.ensures in
    switched p (shown v c.args.f.now c.args.w.now) (shown u c.args.f.now c.leave.new.w) c.in_ok-leave.ensures.does
    ∙ (row_ends (enter_process bounded_table) (word c.from.result) p c.from.ensures u z c.args.f.now c.leave.new.w c.load-r.result c.enter_process.new.r c.load-r.ensures.registers c.load-r.ensures.world c.in_ok-enter_process.ensures.does.does
    ∙ ap (λ (x : State Table). Went tt x) (held_again z (g.M.Memory.view c.hold.new.m) c.hold.result c.leave.new.w c.enter_process.new.r held.same (c.in_ok-enter_process.ensures.does.world ∙ c.load-r.ensures.world) held.objects held.head))

pub returns-clause-ready : goal.returns-clause-ready
returns-clause-ready g c =
    let stays = c.hold.ensures.frame in
    record {
      frame = stays.frame;
      devices = stays.devices ∙ (ap (λ (v : View). v.held.devices) c.in_ok-enter_process.ensures.takes.fixed ∙ c.in_ok-leave.ensures.ready.devices);
    }
