use Rattle.st_at_once.proofs.Rooms.{same_room}
use Rattle.st_at_once.proofs.objects.NearObjects.store_field.Goals as goal

pub returns-clause-room : goal.returns-clause-room
returns-clause-room g c =
    same_room (g.M.Memory.view c.args.self.now.memory.now) (g.M.Memory.view c.store.new.self.memory.now) c.store.ensures.used c.store.ensures.head
