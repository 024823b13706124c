use Rattle.std.proofs.Common.{arith}
use Rattle.st_model.proofs.Runs.{runs}
use Rattle.st_install.specs.Literals.{place_character}
use Rattle.st_model.specs.Values.{value_of}
use Rattle.st_install.proofs.single.place_character.Goals as goal

pub returns-in_err-fetch_field : goal.returns-in_err-fetch_field
unfolding place_character value_of
returns-in_err-fetch_field g c = grind (arith, runs)

pub returns : goal.returns
unfolding place_character value_of
returns g c = grind (arith, runs)
