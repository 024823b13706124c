-- The law is a lemma.
use Rattle.st_simulation.proofs.Outside.{event_shown}
use Rattle.st_simulation.proofs.event_shows_births.Goals as goal

pub returns : goal.returns
returns z = λ e c s w. event_shown c s w e
