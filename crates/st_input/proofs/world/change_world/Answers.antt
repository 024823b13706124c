use Rattle.std.proofs.Common.{sym, ap, ◌∙◌}
use Rattle.st_model.specs.Machine.{Devices}
use Rattle.st_frames.specs.Naming.{filled}
use Rattle.st_input.proofs.world.change_world.Goals as goal

pub returns-in-MoveMouse-clause-held : goal.returns-in-MoveMouse-clause-held
returns-in-MoveMouse-clause-held g c =
    let h = (g.M.Memory.view c.args.m.now).held in
    ap (λ (d : Devices). record h { devices = d }) (c.requires.named ∙ ap filled (sym c.move_mouse.ensures.devices))
