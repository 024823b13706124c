use Rattle.std.proofs.Common.{arith}
use Rattle.st_model.proofs.Runs.{runs}
use Rattle.st_install.specs.Literals.{place_string}
use Rattle.st_model.specs.Values.{value_of}
use Rattle.st_install.proofs.single.place_string.Goals as goal

pub returns : goal.returns
unfolding place_string value_of
returns c = grind (arith, runs)
