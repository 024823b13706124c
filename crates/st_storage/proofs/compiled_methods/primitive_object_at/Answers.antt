use Rattle.std.proofs.Common.{arith}
use Rattle.st_frames.proofs.Tries.{tries}
use Rattle.st_model.specs.Storage.{primitive_object_at}
use Rattle.st_storage.proofs.compiled_methods.primitive_object_at.Goals as goal

pub returns-in_err-object-clause-does : goal.returns-in_err-object-clause-does
unfolding primitive_object_at
returns-in_err-object-clause-does g c = grind (arith, tries)

pub returns-in_err-index-clause-does : goal.returns-in_err-index-clause-does
unfolding primitive_object_at
returns-in_err-index-clause-does g c = grind (arith, tries)

pub returns-in-Ok-clause-does : goal.returns-in-Ok-clause-does
unfolding primitive_object_at
returns-in-Ok-clause-does g c = grind (arith, tries)

pub returns-in-Err-clause-does : goal.returns-in-Err-clause-does
unfolding primitive_object_at
returns-in-Err-clause-does g c = grind (arith, tries)
