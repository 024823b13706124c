use Rattle.std.proofs.Common.{Option, Ok, subst}
use Rattle.std.specs.Option.{option_map}
use Rattle.st_model.specs.Values.{Value, word}
use Rattle.st_model.specs.Machine.{Step}
use Rattle.st_model.specs.Table.{Table}
use Rattle.st_model.specs.inside.Calls.{Reads}
use Rattle.st_at_once.proofs.Rooms.{at_read}
use Rattle.st_at_once.proofs.objects.NearObjects.object_at.Goals as goal

pub returns : goal.returns
returns g c =
    subst (λ (m : Step Table (Option Value)). Reads m (option_map word) (g.M.Memory.view c.args.self.now.memory.now).objects (Ok c.object_at.result)) (at_read c.args.half) c.object_at.ensures
