use Rattle.st_code.specs.inside.MethodDrafts.{parts_view}
use Rattle.st_install.proofs.Readying.{ready_by, no_shape}
use Rattle.st_install.proofs.readiness.ready_for.Goals as goal

pub returns-in-Ok-clause-plan : goal.returns-in-Ok-clause-plan
returns-in-Ok-clause-plan g c =
    let v = g.M.Memory.view c.args.m.now in
    ready_by v.head c.args.of (parts_view c.args.parts) v.objects c.in-Ok.ready c.in-Ok.ensures.plan c.with_room.result c.with_room.ensures.plan

pub returns-in-Err-Dies-clause-plan : goal.returns-in-Err-Dies-clause-plan
returns-in-Err-Dies-clause-plan g c =
    let v = g.M.Memory.view c.args.m.now in
    no_shape v.head c.args.of (parts_view c.args.parts) v.objects c.in-Err-Dies.field-0-0 (rw c.in-Err-Dies.field-0-is at c.in-Err-Dies.ensures.plan)
