use Rattle.std.proofs.Common.{◌∙◌}
use Rattle.st_at_once.proofs.Rooms.{room_asked}
use Rattle.st_at_once.proofs.near.Near.has_room.Goals as goal

pub returns : goal.returns
returns g c = c.room.ensures ∙ room_asked (g.M.Memory.view c.args.self.now.memory.now) c.args.changes c.requires.some
