use Rattle.std.proofs.Common.{rules, ◌≡◌, ◌∙◌, true, false, Ok, Err, refl, ap}
use Rattle.st_model.specs.Machine.{Went, empty_world}
use Rattle.st_model.specs.Values.{value}
use Rattle.st_model.specs.Objects.{nil}
use Rattle.st_model.specs.Start.{idle_state}
use Rattle.st_model.specs.View.{View}
use Rattle.st_frames.specs.inside.Shown.{IsReady, shown}
use Rattle.st_kernel_text.specs.inside.Views.{start_of}
use Rattle.st_kernel.proofs.Begun.{died, went, makes_row, no_receiver, no_method, no_class, no_process, no_room, no_registers, all_made, fetched_idle, lost_idle, begun_again}
use Rattle.st_kernel.proofs.Found.{died_missing}
use Rattle.st_kernel.proofs.beginning.start_process.Goals as goal

pub returns-in_err-receiver-clause-begins : goal.returns-in_err-receiver-clause-begins
returns-in_err-receiver-clause-begins g c =
    let v = g.M.Memory.view c.args.m.now in
    let s = start_of c.args.start.now in
    let e : c.from_residual.result ≡ Err c.in_err-receiver.field-0.0 = search rules in
    died _ c.in_err-receiver.field-0.0 c.from_residual.result v
    (no_receiver v s c.deref.result.now c.deref.ensures.value c.in_err-receiver.field-0.0 c.in_err-receiver.ensures.value) e

pub returns-in_err-method-clause-begins : goal.returns-in_err-method-clause-begins
returns-in_err-method-clause-begins g c =
    let v = g.M.Memory.view c.args.m.now in
    let s = start_of c.args.start.now in
    let e : c.from_residual-in_err-method.result ≡ Err c.in_err-method.field-0.0 = search rules in
    died _ c.in_err-method.field-0.0 c.from_residual-in_err-method.result v
    (no_method v s c.deref.result.now c.deref.ensures.value c.in_ok-receiver.receiver c.in_ok-receiver.ensures.value c.deref-2.result.now c.deref-2.ensures.value
    c.in_err-method.field-0.0 c.in_err-method.ensures) e

pub returns-in_err-class-clause-begins : goal.returns-in_err-class-clause-begins
returns-in_err-class-clause-begins g c =
    let v = g.M.Memory.view c.args.m.now in
    let s = start_of c.args.start.now in
    let e : c.from_residual-in_err-class.result ≡ Err c.in_err-class.field-0.0 = search rules in
    died _ c.in_err-class.field-0.0 c.from_residual-in_err-class.result v
    (no_class v s c.deref.result.now c.deref.ensures.value c.in_ok-receiver.receiver c.in_ok-receiver.ensures.value c.deref-2.result.now c.deref-2.ensures.value
    c.in_ok-method.method c.in_ok-method.ensures c.as_slice.result.now c.as_slice.ensures c.in_err-class.field-0.0 c.in_err-class.ensures.value) e

pub returns-in_err-in_new_process-clause-begins : goal.returns-in_err-in_new_process-clause-begins
returns-in_err-in_new_process-clause-begins g c =
    let v = g.M.Memory.view c.args.m.now in
    let u = g.M.Memory.view c.in_new_process.new.m in
    let s = start_of c.args.start.now in
    let e : c.from_residual-in_err-in_new_process.result ≡ Err c.in_err-in_new_process.field-0.0 = search rules in
    died _ c.in_err-in_new_process.field-0.0 c.from_residual-in_err-in_new_process.result u
    (no_process v s c.deref.result.now c.deref.ensures.value c.in_ok-receiver.receiver c.in_ok-receiver.ensures.value c.deref-2.result.now c.deref-2.ensures.value
    c.in_ok-method.method c.in_ok-method.ensures c.as_slice.result.now c.as_slice.ensures c.in_ok-class.class c.in_ok-class.ensures.value c.in_err-in_new_process.field-0.0
    (makes_row v u c.load-registers.result c.load-registers.ensures.registers (c.load-registers.ensures.world ∙ c.requires.world)
    c.from-3.result c.from.result c.from-2.result (value c.in_ok-class.class) (value c.in_ok-method.method) (value c.in_ok-receiver.receiver) c.from-3.ensures c.from.ensures c.from-2.ensures
    (Err c.in_err-in_new_process.field-0.0) c.in_err-in_new_process.ensures.does.does)) e

pub returns-then-not-branch-clause-begins : goal.returns-then-not-branch-clause-begins
returns-then-not-branch-clause-begins g c =
    let v = g.M.Memory.view c.args.m.now in
    let u = g.M.Memory.view c.in_new_process.new.m in
    let s = start_of c.args.start.now in
    let made = makes_row v u c.load-registers.result c.load-registers.ensures.registers (c.load-registers.ensures.world ∙ c.requires.world)
    c.from-3.result c.from.result c.from-2.result (value c.in_ok-class.class) (value c.in_ok-method.method) (value c.in_ok-receiver.receiver) c.from-3.ensures c.from.ensures c.from-2.ensures
    (Ok c.in_ok-in_new_process.field-0) c.in_ok-in_new_process.ensures.does.does in
    let not_made : c.in_ok-in_new_process.field-0 ≡ false = search rules in
    went _ false (idle_state u) u
    (no_room v s c.deref.result.now c.deref.ensures.value c.in_ok-receiver.receiver c.in_ok-receiver.ensures.value c.deref-2.result.now c.deref-2.ensures.value
    c.in_ok-method.method c.in_ok-method.ensures c.as_slice.result.now c.as_slice.ensures c.in_ok-class.class c.in_ok-class.ensures.value (idle_state u)
    (made ∙ ap (λ b. Went b (idle_state u)) not_made)) refl refl

pub returns-in_err-fetch_scheduled-clause-begins : goal.returns-in_err-fetch_scheduled-clause-begins
returns-in_err-fetch_scheduled-clause-begins g c =
    let v = g.M.Memory.view c.args.m.now in
    let u = g.M.Memory.view c.in_new_process.new.m in
    let w = g.M.Memory.view c.fetch_scheduled.new.m in
    let s = start_of c.args.start.now in
    let e : c.from_residual-in_err-fetch_scheduled.result ≡ Err c.in_err-fetch_scheduled.field-0.0 = search rules in
    let made = makes_row v u c.load-registers.result c.load-registers.ensures.registers (c.load-registers.ensures.world ∙ c.requires.world)
    c.from-3.result c.from.result c.from-2.result (value c.in_ok-class.class) (value c.in_ok-method.method) (value c.in_ok-receiver.receiver) c.from-3.ensures c.from.ensures c.from-2.ensures
    (Ok c.in_ok-in_new_process.field-0) c.in_ok-in_new_process.ensures.does.does in
    let is_made : c.in_ok-in_new_process.field-0 ≡ true = search rules in
    died _ c.in_err-fetch_scheduled.field-0.0 c.from_residual-in_err-fetch_scheduled.result w
    (no_registers v s c.deref.result.now c.deref.ensures.value c.in_ok-receiver.receiver c.in_ok-receiver.ensures.value c.deref-2.result.now c.deref-2.ensures.value
    c.in_ok-method.method c.in_ok-method.ensures c.as_slice.result.now c.as_slice.ensures c.in_ok-class.class c.in_ok-class.ensures.value (idle_state u) c.in_err-fetch_scheduled.field-0.0
    (made ∙ ap (λ b. Went b (idle_state u)) is_made)
    (lost_idle u w c.in_err-fetch_scheduled.field-0.0 c.in_err-fetch_scheduled.ensures.registers)) e

pub returns-clause-begins : goal.returns-clause-begins
returns-clause-begins g c =
    let v = g.M.Memory.view c.args.m.now in
    let u = g.M.Memory.view c.in_new_process.new.m in
    let w = g.M.Memory.view c.fetch_scheduled.new.m in
    let s = start_of c.args.start.now in
    let made = makes_row v u c.load-registers.result c.load-registers.ensures.registers (c.load-registers.ensures.world ∙ c.requires.world)
    c.from-3.result c.from.result c.from-2.result (value c.in_ok-class.class) (value c.in_ok-method.method) (value c.in_ok-receiver.receiver) c.from-3.ensures c.from.ensures c.from-2.ensures
    (Ok c.in_ok-in_new_process.field-0) c.in_ok-in_new_process.ensures.does.does in
    let is_made : c.in_ok-in_new_process.field-0 ≡ true = search rules in
    let last = shown w c.in_ok-fetch_scheduled.field-0 (empty_world nil) in
    went _ true last w
    (all_made v s c.deref.result.now c.deref.ensures.value c.in_ok-receiver.receiver c.in_ok-receiver.ensures.value c.deref-2.result.now c.deref-2.ensures.value
    c.in_ok-method.method c.in_ok-method.ensures c.as_slice.result.now c.as_slice.ensures c.in_ok-class.class c.in_ok-class.ensures.value (idle_state u) last
    (made ∙ ap (λ b. Went b (idle_state u)) is_made)
    (fetched_idle u w c.in_ok-fetch_scheduled.field-0 c.in_ok-fetch_scheduled.ensures.registers)) refl refl

pub returns-clause-begun : goal.returns-clause-begun
returns-clause-begun g c = λ all.
    let v = g.M.Memory.view c.args.m.now in
    let u = g.M.Memory.view c.in_new_process.new.m in
    let w = g.M.Memory.view c.fetch_scheduled.new.m in
    let stays = c.in_ok-fetch_scheduled.ensures.frame in
    let ready : IsReady w c.in_ok-fetch_scheduled.field-0 (empty_world nil) = record {
      frame = stays.frame;
      devices = stays.devices ∙ (ap (λ (x : View). x.held.devices) c.in_ok-in_new_process.ensures.takes.fixed ∙ c.requires.quiet.devices);
    } in
    begun_again u w c.in_ok-fetch_scheduled.field-0 c.in_ok-fetch_scheduled.ensures.objects c.in_ok-fetch_scheduled.ensures.head ready c.in_ok-fetch_scheduled.ensures.registers

pub returns-in_err-receiver-clause-missing : goal.returns-in_err-receiver-clause-missing
returns-in_err-receiver-clause-missing g c =
    let e : c.from_residual.result ≡ Err c.in_err-receiver.field-0.0 = search rules in
    died_missing (g.M.Memory.view c.args.m.now) (g.M.Memory.view c.args.m.now) (start_of c.args.start.now) c.from_residual.result c.in_err-receiver.field-0.0 (g.met.M.Memory.whole c.args.m.now)
    (returns-in_err-receiver-clause-begins g c) e

pub returns-in_err-method-clause-missing : goal.returns-in_err-method-clause-missing
returns-in_err-method-clause-missing g c =
    let e : c.from_residual-in_err-method.result ≡ Err c.in_err-method.field-0.0 = search rules in
    died_missing (g.M.Memory.view c.args.m.now) (g.M.Memory.view c.args.m.now) (start_of c.args.start.now) c.from_residual-in_err-method.result c.in_err-method.field-0.0 (g.met.M.Memory.whole c.args.m.now)
    (returns-in_err-method-clause-begins g c) e

pub returns-in_err-class-clause-missing : goal.returns-in_err-class-clause-missing
returns-in_err-class-clause-missing g c =
    let e : c.from_residual-in_err-class.result ≡ Err c.in_err-class.field-0.0 = search rules in
    died_missing (g.M.Memory.view c.args.m.now) (g.M.Memory.view c.args.m.now) (start_of c.args.start.now) c.from_residual-in_err-class.result c.in_err-class.field-0.0 (g.met.M.Memory.whole c.args.m.now)
    (returns-in_err-class-clause-begins g c) e

pub returns-in_err-in_new_process-clause-missing : goal.returns-in_err-in_new_process-clause-missing
returns-in_err-in_new_process-clause-missing g c =
    let e : c.from_residual-in_err-in_new_process.result ≡ Err c.in_err-in_new_process.field-0.0 = search rules in
    died_missing (g.M.Memory.view c.args.m.now) (g.M.Memory.view c.in_new_process.new.m) (start_of c.args.start.now) c.from_residual-in_err-in_new_process.result c.in_err-in_new_process.field-0.0 (g.met.M.Memory.whole c.args.m.now)
    (returns-in_err-in_new_process-clause-begins g c) e

pub returns-in_err-fetch_scheduled-clause-missing : goal.returns-in_err-fetch_scheduled-clause-missing
returns-in_err-fetch_scheduled-clause-missing g c =
    let e : c.from_residual-in_err-fetch_scheduled.result ≡ Err c.in_err-fetch_scheduled.field-0.0 = search rules in
    died_missing (g.M.Memory.view c.args.m.now) (g.M.Memory.view c.fetch_scheduled.new.m) (start_of c.args.start.now) c.from_residual-in_err-fetch_scheduled.result c.in_err-fetch_scheduled.field-0.0 (g.met.M.Memory.whole c.args.m.now)
    (returns-in_err-fetch_scheduled-clause-begins g c) e
