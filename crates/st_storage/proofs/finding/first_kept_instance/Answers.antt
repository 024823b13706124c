use Rattle.std.proofs.Common.{arith}
use Rattle.st_frames.proofs.Doing.{rows}
use Rattle.st_model.specs.Storage.{first_kept_instance}
use Rattle.st_model.specs.Steps.{or_die}
use Rattle.st_storage.proofs.finding.first_kept_instance.Goals as goal

pub returns-in-Some : goal.returns-in-Some
unfolding first_kept_instance or_die
returns-in-Some g c = grind (arith, rows)

pub returns-in-None : goal.returns-in-None
unfolding first_kept_instance or_die
returns-in-None g c = grind (arith, rows)
