use Rattle.st_scope.proofs.SeenIn.{globals_pushed, no_globals}
use Rattle.st_scope.proofs.naming.push_globals.Goals as goal

pub returns-in_ok-push : goal.returns-in_ok-push
returns-in_ok-push g c =
    globals_pushed c.globals-globals.result (g.M.Memory.view c.args.m.now).head.globals c.args.tables.now.items _ c.globals-globals.ensures c.if-globals-ne0.true c.in_ok-push.ensures.items

pub returns-else-globals-ne0 : goal.returns-else-globals-ne0
returns-else-globals-ne0 g c = no_globals c.globals-globals.result (g.M.Memory.view c.args.m.now).head.globals c.args.tables.now.items c.globals-globals.ensures c.if-globals-ne0.false
