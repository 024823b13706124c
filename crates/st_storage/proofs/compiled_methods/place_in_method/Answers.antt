use Rattle.std.proofs.Common.{arith}
use Rattle.st_frames.proofs.Doing.{checks}
use Rattle.st_model.specs.Storage.{place_in_method, method_place}
use Rattle.st_storage.proofs.compiled_methods.place_in_method.Goals as goal

pub returns-in_err-i : goal.returns-in_err-i
unfolding place_in_method method_place
returns-in_err-i g c = grind (arith, checks)

pub returns-in_err-n : goal.returns-in_err-n
unfolding place_in_method method_place
returns-in_err-n g c = grind (arith, checks)

pub returns-then-i-lt1 : goal.returns-then-i-lt1
unfolding place_in_method method_place
returns-then-i-lt1 g c = grind (arith, checks)

pub returns-then-n-i : goal.returns-then-n-i
unfolding place_in_method method_place
returns-then-n-i g c = grind (arith, checks)

pub returns : goal.returns
unfolding place_in_method method_place
returns g c = grind (arith, checks)
