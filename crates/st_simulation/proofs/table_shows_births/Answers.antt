-- The law is two lemmas.
use Rattle.st_simulation.proofs.CyclesShown.{run_shown, finished_shown}
use Rattle.st_simulation.proofs.table_shows_births.Goals as goal

pub returns : goal.returns
returns c = record {
  ends = λ n c s r. run_shown n c s r.shows r.sound r.entries;
  count = λ n c s r. finished_shown n c s r.shows r.sound r.entries;
}
