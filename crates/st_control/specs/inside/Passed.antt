-- What the code says of a block that takes as many arguments as are passed to it.
use Rattle.std.specs.Prelude.{ℤ}
use Rattle.st_model.specs.Blocks.{Passing}
use Rattle.st_control.specs.declared.passing.Passing.{Passing as CodePassing}

abbrev pub first_of : CodePassing → ℤ
first_of p = p.first

abbrev pub passing_of : CodePassing → Passing
passing_of p = record { count = p.count; first = p.first }
