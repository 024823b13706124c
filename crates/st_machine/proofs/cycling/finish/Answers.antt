use Rattle.std.proofs.Common.{ap, ◌∙◌}
use Rattle.st_model.specs.Table.{table}
use Rattle.st_model.specs.Cycles.{warned}
use Rattle.st_frames.proofs.Settled.{settled_same}
use Rattle.st_control.proofs.Framed.{frame_held, ready_after}
use Rattle.st_machine.proofs.Foreseeing.{warned_same}
use Rattle.st_machine.proofs.cycling.finish.Goals as goal

pub returns-clause-state : goal.returns-clause-state
returns-clause-state g c =
    let u = g.M.Memory.view c.args.m.now in
    let k = g.M.Memory.view c.settle.new.self in
    let z = g.M.Memory.view c.warn.new.m in
    let f = c.args.f.now in
    let w = c.args.w.now in
    let told = c.warn.ensures in
    ap (warned table) (settled_same u k f w c.requires.ready c.settle.ensures.settles) ∙ warned_same k z f w c.warn.new.w told.world told.objects told.head

pub returns-clause-ready : goal.returns-clause-ready
returns-clause-ready g c =
    let k = g.M.Memory.view c.settle.new.self in
    let f = c.args.f.now in
    ready_after k (g.M.Memory.view c.warn.new.m) f c.warn.new.w (frame_held (g.M.Memory.view c.args.m.now) k f c.settle.ensures.settles.held c.requires.ready.frame) c.warn.ensures.held
