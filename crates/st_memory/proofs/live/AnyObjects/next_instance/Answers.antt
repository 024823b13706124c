use Rattle.std.proofs.Common.{arith}
use Rattle.st_model.specs.Values.{word}
use Rattle.st_memory.proofs.Bearing.{next_far, next_gone, next_some, next_none}
use Rattle.st_memory.proofs.live.AnyObjects.next_instance.Goals as goal

pub returns-then-after-gt32767 : goal.returns-then-after-gt32767
returns-then-after-gt32767 g c = next_far (g.M.Memory.view c.args.self.now).objects (word c.args.class) c.args.after (let h = c.if-after-gt32767.true in omega (arith, h))

pub returns-in-Err : goal.returns-in-Err
returns-in-Err g c = next_gone (g.M.Memory.view c.args.self.now) (g.met.M.Memory.whole c.args.self.now) (word c.args.class) c.args.after c.in-Err.ensures.gone

pub returns-in-Some : goal.returns-in-Some
returns-in-Some g c =
    let e = c.in-Some.ensures in
    next_some (g.M.Memory.view c.args.self.now) (g.met.M.Memory.whole c.args.self.now) c.in-Ok.class c.in-Some.o (word c.args.class) c.args.after c.from.result c.in-Ok.ensures.same c.in-Ok.ensures.live e.found e.above e.least c.from.ensures

pub returns-in-None : goal.returns-in-None
returns-in-None g c =
    next_none (g.M.Memory.view c.args.self.now) (g.met.M.Memory.whole c.args.self.now) c.in-Ok.class (word c.args.class) c.args.after c.in-Ok.ensures.same c.in-None.ensures.none
