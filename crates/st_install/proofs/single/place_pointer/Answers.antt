use Rattle.st_install.proofs.Singles.{pointer_there, pointer_gone}
use Rattle.st_install.proofs.single.place_pointer.Goals as goal

pub returns-then-live : goal.returns-then-live
returns-then-live g c =
    let e = c.live.ensures in
    let f = c.if-live.true in
    pointer_there c.args.pointer.0 (g.M.Memory.view c.args.m.now).objects cc

pub returns-else-live : goal.returns-else-live
returns-else-live g c =
    let e = c.live.ensures in
    let f = c.if-live.false in
    pointer_gone c.args.pointer.0 (g.M.Memory.view c.args.m.now).objects cc
