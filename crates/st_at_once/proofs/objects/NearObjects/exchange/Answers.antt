use Rattle.st_model.specs.Values.{word}
use Rattle.st_model.specs.Steps.{exchange}
use Rattle.st_model.specs.Table.{bounded_table}
use Rattle.st_at_once.proofs.Uses.{exchange_keeps, used_unless}
use Rattle.st_at_once.proofs.Rooms.{same_room}
use Rattle.st_at_once.proofs.objects.NearObjects.exchange.Goals as goal

pub returns-clause-room : goal.returns-clause-room
returns-clause-room g c =
    let v = g.M.Memory.view c.args.self.now.memory.now in
    let u = g.M.Memory.view c.exchange.new.self in
    same_room v u
    (used_unless (exchange bounded_table (word c.args.a) (word c.args.b)) (exchange_keeps (word c.args.a) (word c.args.b)) c.exchange.result v.objects u.objects v.head c.exchange.ensures.exchanges
    c.exchange.ensures.dead) c.exchange.ensures.head
