use Rattle.st_model.specs.Values.{value, value_of}
use Rattle.st_code.specs.inside.MethodDrafts.{parts_view}
use Rattle.st_install.proofs.Readying.{head_none, head_some, no_globals, no_association, ready_of}
use Rattle.st_install.proofs.readiness.ready.Goals as goal

pub returns-then-globals-eq0-clause-plan : goal.returns-then-globals-eq0-clause-plan
returns-then-globals-eq0-clause-plan g c =
    let v = g.M.Memory.view c.args.m.now in
    no_globals v.head (value c.args.class) c.args.name.now c.args.meta (parts_view c.args.parts) v.objects (head_none c.globals-globals.result.0 v.head.globals c.globals-globals.ensures c.if-globals-eq0.true)

pub returns-in-Err-clause-plan : goal.returns-in-Err-clause-plan
returns-in-Err-clause-plan g c =
    let v = g.M.Memory.view c.args.m.now in
    let w = c.globals-globals.result.0 in
    no_association v.head (value c.args.class) c.args.name.now c.args.meta (parts_view c.args.parts) v.objects (value_of w) (head_some w v.head.globals c.globals-globals.ensures c.if-globals-eq0.false)
    c.in-Err.field-0 c.in-Err.ensures

pub returns-in-Ok-clause-plan : goal.returns-in-Ok-clause-plan
returns-in-Ok-clause-plan g c =
    let v = g.M.Memory.view c.args.m.now in
    let w = c.globals-globals.result.0 in
    ready_of v.head (value c.args.class) c.args.name.now c.args.meta (parts_view c.args.parts) v.objects (value_of w) (head_some w v.head.globals c.globals-globals.ensures c.if-globals-eq0.false)
    c.in-Ok.association c.in-Ok.ensures c.ready_for.result c.ready_for.ensures.plan
