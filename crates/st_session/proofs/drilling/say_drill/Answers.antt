use Rattle.st_session.proofs.Points.{shown_births}
use Rattle.st_session.proofs.Reported.{reports_all, reports_part}
use Rattle.st_session.proofs.drilling.say_drill.Goals as goal

pub returns-in_err-push_drill : goal.returns-in_err-push_drill
returns-in_err-push_drill g c = reports_part (shown_births g.M.Memory.view c.args.machine.now (g.met.M.Memory.whole c.args.machine.now.memory) c.requires.ready) c.new-out.ensures c.from_residual.result c.from_residual.ensures.0 c.in_err-push_drill.ensures

pub returns : goal.returns
returns g c = reports_all (shown_births g.M.Memory.view c.args.machine.now (g.met.M.Memory.whole c.args.machine.now.memory) c.requires.ready) c.new-out.ensures c.in_ok-push_drill.ensures c.finish.ensures.all c.finish.ensures.says c.finish.ensures.cause
