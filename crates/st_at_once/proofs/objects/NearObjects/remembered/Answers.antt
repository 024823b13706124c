use Rattle.std.proofs.Common.{Option, Some, Ok, subst}
use Rattle.std.specs.Prelude.{IfSome}
use Rattle.st_model.specs.Values.{Value, word}
use Rattle.st_model.specs.Machine.{Step}
use Rattle.st_model.specs.Table.{Table}
use Rattle.st_model.specs.inside.Calls.{Reads, itself}
use Rattle.st_memory.proofs.Unbounded.{search_bounded}
use Rattle.st_at_once.proofs.objects.NearObjects.remembered.Goals as goal

pub returns : goal.returns
returns g c =
    subst (λ (m : Step Table (Option Value)). IfSome c.remembered.result (λ method. Reads m itself (g.M.Memory.view c.args.self.now.memory.now).objects (Ok (Some (word method)))))
    (search_bounded (word c.args.class) (word c.args.selector)) c.remembered.ensures
