use Rattle.st_at_once.proofs.Settled.{near_settled}
use Rattle.st_at_once.proofs.Placed.{placed_settled}
use Rattle.st_at_once.proofs.Rooms.{room_settled}
use Rattle.st_at_once.proofs.near.Near.settle.Goals as goal

pub invariant_of-self : goal.invariant_of-self
invariant_of-self g c =
    let a = c.args.self.now in
    let e = c.settle.ensures in
    let w = g.M.Memory.view c.settle.new.self in
    let near = near_settled (g.M.Memory.view a.memory.now) w a.known e.settles a.near in
    record { near = near; places = placed_settled w (g.M.Memory.stands a.memory.now) (g.M.Memory.stands c.settle.new.self) a.known e.places near a.places }

pub returns-clause-room : goal.returns-clause-room
returns-clause-room g c = room_settled (g.M.Memory.view c.args.self.now.memory.now) (g.M.Memory.view c.settle.new.self) c.settle.ensures.settles
