use Rattle.st_model.specs.Values.{value, word}
use Rattle.st_at_once.proofs.Direct.{literal_read}
use Rattle.st_at_once.proofs.objects.NearObjects.literal.Goals as goal

pub returns-in-Some : goal.returns-in-Some
returns-in-Some g c =
    let t = (g.M.Memory.view c.args.self.now.memory.now).objects in
    literal_read t (value c.in-Some.method.object) (word c.args.method) c.args.i (value c.placed_pointer.result) (word c.from.result)
    c.in-Some.ensures.same c.in-Some.ensures.literal c.placed_pointer.ensures.field c.from.ensures
