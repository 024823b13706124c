use Rattle.std.proofs.Common.{Ok, subst}
use Rattle.std.specs.Prelude.{ℕ}
use Rattle.st_model.specs.Values.{word}
use Rattle.st_model.specs.Machine.{Step}
use Rattle.st_model.specs.Table.{Table}
use Rattle.st_model.specs.inside.Calls.{Reads, itself}
use Rattle.st_memory.proofs.Unbounded.{half_bounded}
use Rattle.st_at_once.proofs.objects.NearObjects.half_word.Goals as goal

pub returns-clause-half : goal.returns-clause-half
returns-clause-half g c =
    subst (λ (m : Step Table ℕ). Reads m itself (g.M.Memory.view c.args.self.now.memory.now).objects (Ok c.half_word.result)) (half_bounded (word c.args.o)) c.half_word.ensures.half
