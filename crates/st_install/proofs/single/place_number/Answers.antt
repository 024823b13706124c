use Rattle.std.proofs.Common.{arith}
use Rattle.st_model.proofs.Runs.{runs}
use Rattle.st_install.specs.Literals.{place_number, place_signed, place_size}
use Rattle.st_model.specs.Values.{value_of}
use Rattle.st_install.proofs.single.place_number.Goals as goal

pub returns-then-n : goal.returns-then-n
unfolding place_number place_signed place_size value_of
returns-then-n c = grind (arith, runs)

pub returns : goal.returns
unfolding place_number place_signed place_size value_of
returns c = grind (arith, runs)
