use Rattle.std.proofs.Common.{Option, Ok, subst}
use Rattle.std.specs.Option.{option_map}
use Rattle.st_model.specs.Values.{Value, word}
use Rattle.st_model.specs.Machine.{Step}
use Rattle.st_model.specs.Table.{Table}
use Rattle.st_model.specs.inside.Calls.{Reads}
use Rattle.st_at_once.proofs.Rooms.{next_read}
use Rattle.st_at_once.proofs.objects.NearObjects.next_instance.Goals as goal

pub returns : goal.returns
returns g c =
    subst (λ (m : Step Table (Option Value)). Reads m (option_map word) (g.M.Memory.view c.args.self.now.memory.now).objects (Ok c.next_instance.result)) (next_read (word c.args.class) c.args.after) c.next_instance.ensures
