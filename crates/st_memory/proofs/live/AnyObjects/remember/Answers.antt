use Rattle.st_model.specs.Values.{word}
use Rattle.st_memory.proofs.Unbounded.{bounded_finds}
use Rattle.st_memory.proofs.live.AnyObjects.remember.Goals as goal

pub remember-requires : goal.remember-requires
remember-requires g c =
    rw (c.in-Some.ensures.same, c.in-Some-live_value.ensures.same, c.in-Some-live_value-2.ensures.same)
    (bounded_finds (g.M.Memory.view c.args.self.now).objects (word c.args.class) (word c.args.selector) (word c.args.method) c.requires)
