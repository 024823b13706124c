use Rattle.st_machine.proofs.Asked.{taken}
use Rattle.st_machine.proofs.coming.come.Goals as goal

pub returns-clause-comes : goal.returns-clause-comes
returns-clause-comes g c s h =
    taken (g.M.Memory.view c.args.m.now) (g.M.Memory.view c.event.new.m) c.args.f.now c.args.w.now c.event.new.self c.args.e c.event.result s h c.event.ensures.comes c.event.ensures.objects c.event.ensures.head
