-- The law is a lemma.
use Rattle.st_simulation.proofs.Again.{fetched_shown}
use Rattle.st_simulation.proofs.start_shows_births.Goals as goal

pub returns : goal.returns
returns c = fetched_shown
