use Rattle.std.proofs.Common.{arith}
use Rattle.st_frames.proofs.Tries.{tries}
use Rattle.st_model.specs.Storage.{primitive_some_instance}
use Rattle.st_storage.proofs.finding.primitive_some_instance.Goals as goal

pub returns-in_err-receiver-clause-does : goal.returns-in_err-receiver-clause-does
unfolding primitive_some_instance
returns-in_err-receiver-clause-does g c = grind (arith, tries)

pub returns-in-Ok-clause-does : goal.returns-in-Ok-clause-does
unfolding primitive_some_instance
returns-in-Ok-clause-does g c = grind (arith, tries)

pub returns-in-Err-clause-does : goal.returns-in-Err-clause-does
unfolding primitive_some_instance
returns-in-Err-clause-does g c = grind (arith, tries)
