use Rattle.std.proofs.Common.{arith}
use Rattle.st_frames.proofs.Doing.{rows}
use Rattle.st_model.specs.Storage.{place_to_store, check_method_field}
use Rattle.st_storage.proofs.compiled_methods.place_to_store.Goals as goal

pub returns-in_err-place-clause-does : goal.returns-in_err-place-clause-does
unfolding place_to_store check_method_field
returns-in_err-place-clause-does g c = grind (arith, rows)

pub returns-else-place-eq0-clause-does : goal.returns-else-place-eq0-clause-does
unfolding place_to_store check_method_field
returns-else-place-eq0-clause-does g c = grind (arith, rows)
