use Rattle.st_model.proofs.Raised.{raised_shown}
use Rattle.st_frames.specs.inside.Shown.{shown}
use Rattle.st_frames.proofs.Closed.{is_closed}
use Rattle.st_machine.proofs.machine.Machine.boot.Goals as goal

pub returns-clause-shows : goal.returns-clause-shows
returns-clause-shows g c =
    let v = g.M.Memory.view c.args.loaded.memory in
    let f = c.args.loaded.frame in
    let w = c.args.world in
    raised_shown (shown v f w) (is_closed v f w (g.met.M.Memory.whole c.args.loaded.memory) c.requires.ready)
