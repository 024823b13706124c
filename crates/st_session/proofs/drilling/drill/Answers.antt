use Rattle.st_session.specs.inside.Standing.{shown_by}
use Rattle.st_session.proofs.Built.{wrong_cause}
use Rattle.st_session.proofs.Drilled.{drill_done, drill_unsaid, drill_reads, drill_refused}
use Rattle.st_session.proofs.drilling.drill.Goals as goal

pub returns-in-Ok-say_drill-clause-ends : goal.returns-in-Ok-say_drill-clause-ends
returns-in-Ok-say_drill-clause-ends g c =
    drill_done g.H.Host c.args.number c.args.host.now c.say_drill.new.host (g.L.Done.Memory.view c.in-Ok.machine.memory) (shown_by g.L.Done.Memory.view c.in-Ok.machine) (g.met.L.Done.Memory.whole c.in-Ok.machine.memory) c.in-Ok.ensures.begins c.in-Ok-say_drill.ensures

pub returns-in-Ok-clause-ends : goal.returns-in-Ok-clause-ends
returns-in-Ok-clause-ends g c =
    drill_unsaid g.H.Host c.args.number c.args.host.now c.say_drill.new.host (g.L.Done.Memory.view c.in-Ok.machine.memory) (shown_by g.L.Done.Memory.view c.in-Ok.machine) (g.met.L.Done.Memory.whole c.in-Ok.machine.memory) c.in-Ok.ensures.begins _ c.in-Err-say_drill.ensures

pub returns-clause-ends : goal.returns-clause-ends
returns-clause-ends g c =
    let line = c.report_status.ensures in
    drill_refused g.H.Host c.args.number c.args.host.now c.report_status.new.host c.in-Err.fault c.kernel_status-status.result c.kernel_status-status.ensures c.in-Err.ensures.refused line.line line.alike line.disk

pub returns-in-Ok-say_drill-clause-says : goal.returns-in-Ok-say_drill-clause-says
returns-in-Ok-say_drill-clause-says g c =
    drill_reads g.H.Host c.args.number c.args.host.now c.say_drill.new.host (g.L.Done.Memory.view c.in-Ok.machine.memory) (shown_by g.L.Done.Memory.view c.in-Ok.machine) (g.met.L.Done.Memory.whole c.in-Ok.machine.memory) c.in-Ok.ensures.begins c.say_drill.result c.say_drill.ensures

pub returns-in-Ok-clause-says : goal.returns-in-Ok-clause-says
returns-in-Ok-clause-says g c =
    drill_reads g.H.Host c.args.number c.args.host.now c.say_drill.new.host (g.L.Done.Memory.view c.in-Ok.machine.memory) (shown_by g.L.Done.Memory.view c.in-Ok.machine) (g.met.L.Done.Memory.whole c.in-Ok.machine.memory) c.in-Ok.ensures.begins c.say_drill.result c.say_drill.ensures

pub returns-clause-says : goal.returns-clause-says
returns-clause-says g c = (_, c.report_status.ensures.reads)

pub returns-clause-cause : goal.returns-clause-cause
returns-clause-cause g c = wrong_cause g.H.Host c.args.host.now c.report_status.new.host c.in-Err.fault c.kernel_status-status.result c.kernel_status-status.ensures
