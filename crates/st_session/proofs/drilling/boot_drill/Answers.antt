use Rattle.std.proofs.Common.{rules, ◌≡◌, ◌≤◌, ◌^◌, ◌∙◌, List, ℕ, length, Err, sym, ap, subst}
use Rattle.std.specs.Prelude.{IfErr}
use Rattle.st_model.specs.Machine.{World}
use Rattle.st_frames.specs.inside.Shown.{filled}
use Rattle.st_session.specs.Drills.{IsNoDrill}
use Rattle.st_session.proofs.Drilled.{surely_fetched, builds_drill, begins_drill, booted, none_drilled}
use Rattle.st_session.proofs.drilling.boot_drill.Goals as goal

pub returns-in_err-memory-clause-refused : goal.returns-in_err-memory-clause-refused
returns-in_err-memory-clause-refused g c =
    let same = c.deref.ensures.value in
    let short = subst (λ (t : List ℕ). length t ≤ 2 ^ 17) (sym same) c.in_ok-text.ensures.short in
    let e : c.from_residual-in_err-memory.result ≡ Err c.in_err-memory.field-0.0 = search rules in
    subst (λ r. IfErr r (IsNoDrill c.args.number)) (sym e)
    (none_drilled c.args.number c.deref.result.now c.in_err-memory.field-0.0 (same ∙ c.in_ok-text.ensures.text) short c.in_err-memory.ensures.refused)

pub unreachable-requires : goal.unreachable-requires
unreachable-requires g c =
    surely_fetched (g.L.Done.Memory.view c.in_ok-memory.memory) (g.L.Done.Memory.view c.fetch_scheduled.new.m) c.fetch_scheduled.result c.in_ok-memory.ensures.begun c.fetch_scheduled.ensures.registers c.in_default.not-Ok

pub boot-requires : goal.boot-requires
boot-requires g c =
    let stays = c.in-Ok.ensures.frame in
    record {
      ready = record {
        frame = stays.frame;
        devices = stays.devices ∙ (c.in_ok-memory.ensures.begun.held.devices ∙ sym (ap (λ (w : World). filled w.devices) c.in_ok-world.ensures));
      };
    }

pub returns-clause-begins : goal.returns-clause-begins
returns-clause-begins g c =
    let n = c.args.number in
    let old = g.L.Done.Memory.view c.in_ok-memory.memory in
    let new = g.L.Done.Memory.view c.fetch_scheduled.new.m in
    let same = c.deref.ensures.value in
    let short = subst (λ (t : List ℕ). length t ≤ 2 ^ 17) (sym same) c.in_ok-text.ensures.short in
    let builds = builds_drill n c.deref.result.now old (same ∙ c.in_ok-text.ensures.text) short c.in_ok-memory.ensures.built in
    booted n new (g.L.Done.Memory.view c.boot.result.memory) c.in-Ok.frame c.boot.result.frame c.boot.result.world c.boot.ensures.memory c.boot.ensures.frame (c.boot.ensures.world ∙ c.in_ok-world.ensures)
    (begins_drill n old new c.in-Ok.frame builds c.in-Ok.ensures.objects c.in-Ok.ensures.head c.in-Ok.ensures.registers)
