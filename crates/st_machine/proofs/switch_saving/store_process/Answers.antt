use Rattle.std.proofs.Common.{rules, ◌≡◌, Err, ◌∙◌}
use Rattle.st_frames.specs.inside.Shown.{shown, registers_of}
use Rattle.st_machine.proofs.Done.{not_switched, not_stored, stored, fetched_bounded}
use Rattle.st_machine.proofs.switch_saving.store_process.Goals as goal

pub returns-in_err-switch_if_waiting-clause-does : goal.returns-in_err-switch_if_waiting-clause-does
returns-in_err-switch_if_waiting-clause-does g c =
    let s = shown (g.M.Memory.view c.args.m.now) c.args.f.now c.args.w.now in
    let e : c.from_residual.result ≡ Err c.in_err-switch_if_waiting.field-0.0 = search rules in
    rw e (not_switched s c.in_err-switch_if_waiting.field-0.0 c.in_err-switch_if_waiting.ensures.does)

pub returns-in_err-store_active-clause-does : goal.returns-in_err-store_active-clause-does
returns-in_err-store_active-clause-does g c =
    let s = shown (g.M.Memory.view c.args.m.now) c.args.f.now c.args.w.now in
    let t = shown (g.M.Memory.view c.switch_if_waiting.new.m) c.switch_if_waiting.new.f c.switch_if_waiting.new.w in
    let e : c.from_residual-in_err-store_active.result ≡ Err c.in_err-store_active.field-0.0 = search rules in
    rw e (not_stored s t c.in_err-store_active.field-0.0 c.in_ok-switch_if_waiting.ensures.does c.in_err-store_active.ensures.does)

pub returns-in_err-f-clause-does : goal.returns-in_err-f-clause-does
returns-in_err-f-clause-does g c =
    let s = shown (g.M.Memory.view c.args.m.now) c.args.f.now c.args.w.now in
    let t = shown (g.M.Memory.view c.switch_if_waiting.new.m) c.switch_if_waiting.new.f c.switch_if_waiting.new.w in
    let u = shown (g.M.Memory.view c.store_active.new.m) c.switch_if_waiting.new.f c.switch_if_waiting.new.w in
    let e : c.from_residual-in_err-f.result ≡ Err c.in_err-f.field-0.0 = search rules in
    rw e (stored s t u c.in_ok-switch_if_waiting.ensures.does c.in_ok-store_active.ensures.does
    ∙ (fetched_bounded u ∙ c.in_err-f.ensures.registers (registers_of c.switch_if_waiting.new.f) c.switch_if_waiting.new.w))

pub returns-clause-does : goal.returns-clause-does
returns-clause-does g c =
    let s = shown (g.M.Memory.view c.args.m.now) c.args.f.now c.args.w.now in
    let t = shown (g.M.Memory.view c.switch_if_waiting.new.m) c.switch_if_waiting.new.f c.switch_if_waiting.new.w in
    let u = shown (g.M.Memory.view c.store_active.new.m) c.switch_if_waiting.new.f c.switch_if_waiting.new.w in
    stored s t u c.in_ok-switch_if_waiting.ensures.does c.in_ok-store_active.ensures.does
    ∙ (fetched_bounded u ∙ c.in_ok-f.ensures.registers (registers_of c.switch_if_waiting.new.f) c.switch_if_waiting.new.w)

pub returns-clause-ready : goal.returns-clause-ready
returns-clause-ready g c =
    let stays = c.in_ok-f.ensures.frame in
    record { frame = stays.frame; devices = stays.devices ∙ c.in_ok-store_active.ensures.ready.devices }
