-- The law is a lemma of steps that make nothing.
use Rattle.st_simulation.proofs.Between.{shows_settled}
use Rattle.st_model.specs.Saving.{save, store_process}
use Rattle.st_simulation.proofs.CyclesSame.{store_process-same}
use Rattle.st_simulation.proofs.save_shows_births.Goals as goal

pub returns : goal.returns
unfolding save
returns z = λ c s r. shows_settled (λ H m. store_process m) (λ H K M N sim. store_process-same sim) c s r.shows r.sound r.entries
