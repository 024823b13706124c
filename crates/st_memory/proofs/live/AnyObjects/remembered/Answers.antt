use Rattle.st_model.specs.Values.{value, word}
use Rattle.st_memory.specs.inside.Searched.{Finds}
use Rattle.st_memory.proofs.Unbounded.{finds_bounded}
use Rattle.st_memory.proofs.live.AnyObjects.remembered.Goals as goal

pub returns-in-Some : goal.returns-in-Some
returns-in-Some g c =
    let t = (g.M.Memory.view c.args.self.now).objects in
    let f : Finds t (word c.args.class) (word c.args.selector) (value c.in-Some.method) = rw c.in-Ok.ensures.same at c.in-Some.ensures in
    rw c.from.ensures (finds_bounded t (word c.args.class) (word c.args.selector) (value c.in-Some.method) f)
