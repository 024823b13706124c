use Rattle.st_parts.proofs.PartsAlike.{parts_alike}
use Rattle.st_parts.proofs.laws.parts_are_alike.Goals as goal

pub returns : goal.returns
returns c = λ a b alike v at. parts_alike a b alike v at
