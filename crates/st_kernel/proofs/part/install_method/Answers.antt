use Rattle.st_model.specs.Objects.{nil}
use Rattle.st_model.specs.Machine.{empty_world}
use Rattle.st_install.specs.Defining.{installed}
use Rattle.st_kernel.specs.inside.Following.{side_in, idle_frame}
use Rattle.st_kernel.proofs.Underway.{installs_idle, accepted, refused}
use Rattle.st_kernel.proofs.part.install_method.Goals as goal

pub returns-in-Accepted-clause-installs : goal.returns-in-Accepted-clause-installs
returns-in-Accepted-clause-installs g c = λ cause whole parts u.
    let old = g.M.Memory.view c.args.m.now in
    let new = g.M.Memory.view c.define.new.m in
    accepted installed cause whole c.args.chunk (side_in c.args.heading) c.args.text.now parts old new c.define.result
    (installs_idle installed _ _ c.definition_by.ensures c.define.result old new (λ s. c.define.ensures.installs idle_frame (empty_world nil) s c.requires.quiet))
    u _ c.in-Accepted.is

pub returns-in-Refused-clause-installs : goal.returns-in-Refused-clause-installs
returns-in-Refused-clause-installs g c = λ cause whole parts u.
    let old = g.M.Memory.view c.args.m.now in
    let new = g.M.Memory.view c.define.new.m in
    refused installed cause whole c.args.chunk (side_in c.args.heading) c.args.text.now parts old new c.define.result
    (installs_idle installed _ _ c.definition_by.ensures c.define.result old new (λ s. c.define.ensures.installs idle_frame (empty_world nil) s c.requires.quiet))
    u _ c.in-Refused.is

pub returns-in-Accepted-clause-quiet : goal.returns-in-Accepted-clause-quiet
returns-in-Accepted-clause-quiet g c = c.define.ensures.ready idle_frame (empty_world nil) c.requires.quiet
