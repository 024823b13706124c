use Rattle.std.proofs.Common.{arith}
use Rattle.st_frames.proofs.Doing.{checks}
use Rattle.st_model.specs.Storage.{place_of_element}
use Rattle.st_storage.proofs.elements.place_of_element.Goals as goal

pub returns-in_err-n : goal.returns-in_err-n
unfolding place_of_element
returns-in_err-n g c = grind (arith, checks)

pub returns-then-i-lt1 : goal.returns-then-i-lt1
unfolding place_of_element
returns-then-i-lt1 g c = grind (arith, checks)

pub returns-then-n-fixed : goal.returns-then-n-fixed
unfolding place_of_element
returns-then-n-fixed g c = grind (arith, checks)

pub returns-in_err-first : goal.returns-in_err-first
unfolding place_of_element
returns-in_err-first g c = grind (arith, checks)

pub returns-then-place-first : goal.returns-then-place-first
unfolding place_of_element
returns-then-place-first g c = grind (arith, checks)

pub returns : goal.returns
unfolding place_of_element
returns g c = grind (arith, checks)
