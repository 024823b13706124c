use Rattle.std.proofs.Common.{rules, ◌≡◌, Err, sym, subst}
use Rattle.st_model.specs.Births.{births}
use Rattle.st_model.specs.Saving.{save}
use Rattle.st_frames.specs.inside.Shown.{shown}
use Rattle.st_machine.specs.inside.Asked.{SavedAs}
use Rattle.st_frames.proofs.Settled.{settled_same}
use Rattle.st_machine.proofs.Asked.{save_dies, saved}
use Rattle.st_machine.proofs.saving.save.Goals as goal

pub returns-in_err-store_process-clause-saves : goal.returns-in_err-store_process-clause-saves
returns-in_err-store_process-clause-saves g c s h =
    let v = g.M.Memory.view c.args.m.now in
    let d = shown (g.M.Memory.view c.store_process.new.m) c.store_process.new.f c.store_process.new.w in
    let e : c.from_residual.result ≡ Err c.in_err-store_process.field-0.0 = search rules in
    subst (λ y. SavedAs y d (save births s)) (sym e)
    (save_dies v c.args.f.now c.args.w.now (g.met.M.Memory.whole c.args.m.now) c.requires.ready s h c.in_err-store_process.field-0.0 d c.in_err-store_process.ensures.does)

pub returns-clause-saves : goal.returns-clause-saves
returns-clause-saves g c s h =
    let v = g.M.Memory.view c.args.m.now in
    let u = g.M.Memory.view c.store_process.new.m in
    let k = g.M.Memory.view c.settle.new.self in
    let f = c.store_process.new.f in
    let w = c.store_process.new.w in
    saved v c.args.f.now c.args.w.now (g.met.M.Memory.whole c.args.m.now) c.requires.ready s h (shown u f w) (shown k f w) c.in_ok-store_process.ensures.does
    (settled_same u k f w c.in_ok-store_process.ensures.ready c.settle.ensures.settles)
