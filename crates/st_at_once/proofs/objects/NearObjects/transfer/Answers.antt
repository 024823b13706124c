use Rattle.st_at_once.proofs.Rooms.{same_room}
use Rattle.st_at_once.proofs.objects.NearObjects.transfer.Goals as goal

pub returns-clause-room : goal.returns-clause-room
returns-clause-room g c =
    same_room (g.M.Memory.view c.args.self.now.memory.now) (g.M.Memory.view c.transfer_fields.new.self.memory.now) c.transfer_fields.ensures.used c.transfer_fields.ensures.head
