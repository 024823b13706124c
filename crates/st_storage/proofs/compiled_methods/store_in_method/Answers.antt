use Rattle.std.proofs.Common.{arith}
use Rattle.st_frames.proofs.Doing.{rows}
use Rattle.st_model.specs.Storage.{store_in_method}
use Rattle.st_storage.proofs.compiled_methods.store_in_method.Goals as goal

pub returns-in_err-deed-clause-does : goal.returns-in_err-deed-clause-does
unfolding store_in_method
returns-in_err-deed-clause-does g c = grind (arith, rows)

pub returns-clause-does : goal.returns-clause-does
unfolding store_in_method
returns-clause-does g c = grind (arith, rows)
