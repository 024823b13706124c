use Rattle.std.specs.Prelude.{◌/◌}
use Rattle.st_model.specs.Formed.{fresh}
use Rattle.st_at_once.proofs.Keeping.{near_placed}
use Rattle.st_at_once.proofs.near.Near.make_object.Goals as goal

pub look_after_make-self-requires : goal.look_after_make-self-requires
look_after_make-self-requires g c =
    let a = c.args in
    let made = c.make-made in
    near_placed (g.M.Memory.view a.self.now.memory.now) (g.M.Memory.view made.new.self) a.self.now.known (fresh (a.class.0 / 2) a.kind a.size a.literals)
    made.ensures.objects made.ensures.held a.self.now.near
