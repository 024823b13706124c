use Rattle.st_code.specs.inside.MethodDrafts.{parts_view}
use Rattle.st_model.specs.Values.{value_of}
use Rattle.st_install.proofs.Readying.{head_none, head_some, no_symbols, planned_by}
use Rattle.st_install.proofs.readiness.planned.Goals as goal

pub returns-then-symbols-eq0-clause-plan : goal.returns-then-symbols-eq0-clause-plan
returns-then-symbols-eq0-clause-plan g c =
    let v = g.M.Memory.view c.args.m.now in
    no_symbols v.head c.args.of (parts_view c.args.parts) v.objects (head_none c.symbols-symbols.result.0 v.head.symbols c.symbols-symbols.ensures c.if-symbols-eq0.true)

pub returns-clause-plan : goal.returns-clause-plan
returns-clause-plan g c =
    let v = g.M.Memory.view c.args.m.now in
    planned_by v.head c.args.of (parts_view c.args.parts) v.objects (value_of c.symbols-symbols.result.0)
    (head_some c.symbols-symbols.result.0 v.head.symbols c.symbols-symbols.ensures c.if-symbols-eq0.false) c.plan.result c.plan.ensures.plan
