use Rattle.std.proofs.Common.{arith}
use Rattle.st_frames.proofs.Doing.{rows}
use Rattle.st_frames.proofs.Tries.{counts}
use Rattle.st_storage.proofs.Makeable.{methods}
use Rattle.st_model.specs.Storage.{new_method}
use Rattle.st_storage.proofs.compiled_methods.new_method.Goals as goal

pub returns-in_err-word-clause-does : goal.returns-in_err-word-clause-does
unfolding new_method
returns-in_err-word-clause-does g c = grind (arith, rows, counts, methods)

pub returns-in_err-check_header-clause-does : goal.returns-in_err-check_header-clause-does
unfolding new_method
returns-in_err-check_header-clause-does g c = grind (arith, rows, counts, methods)

pub returns-in_err-deed-clause-does : goal.returns-in_err-deed-clause-does
unfolding new_method
returns-in_err-deed-clause-does g c = grind (arith, rows, counts, methods)

pub returns-clause-does : goal.returns-clause-does
unfolding new_method
returns-clause-does g c = grind (arith, rows, counts, methods)
