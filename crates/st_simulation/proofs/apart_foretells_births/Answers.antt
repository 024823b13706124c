-- The law is a lemma.
use Rattle.st_simulation.proofs.CyclesShown.{foretells}
use Rattle.st_simulation.proofs.apart_foretells_births.Goals as goal

pub returns : goal.returns
returns c = λ d s w e. foretells d s w e
