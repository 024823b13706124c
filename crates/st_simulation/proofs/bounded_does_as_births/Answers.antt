-- The law is a lemma.
use Rattle.st_simulation.proofs.CyclesShown.{does_as_births}
use Rattle.st_simulation.proofs.bounded_does_as_births.Goals as goal

pub returns : goal.returns
returns c = λ d s w e o u f g. does_as_births d s w e o u f g
