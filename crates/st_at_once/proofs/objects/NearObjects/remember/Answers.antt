use Rattle.std.proofs.Common.{ap}
use Rattle.st_model.specs.Values.{word}
use Rattle.st_model.specs.Machine.{used}
use Rattle.st_model.specs.Table.{table}
use Rattle.st_memory.proofs.Unbounded.{finds_bounded}
use Rattle.st_at_once.proofs.Rooms.{room_as}
use Rattle.st_at_once.proofs.objects.NearObjects.remember.Goals as goal

pub remember-requires : goal.remember-requires
remember-requires g c = finds_bounded (g.M.Memory.view c.args.self.now.memory.now).objects (word c.args.class) (word c.args.selector) (word c.args.method) c.requires

pub returns-clause-room : goal.returns-clause-room
returns-clause-room g c =
    room_as (g.M.Memory.view c.args.self.now.memory.now) (g.M.Memory.view c.remember.new.self) (ap (used table) c.remember.ensures.table) c.remember.ensures.head
