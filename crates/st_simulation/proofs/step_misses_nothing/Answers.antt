-- The law is three lemmas.
use Rattle.st_simulation.proofs.ExecutingSure.{misses_nothing, switch_misses_nothing, store_misses_nothing}
use Rattle.st_simulation.proofs.step_misses_nothing.Goals as goal

pub returns : goal.returns
returns z = record { bytecode = misses_nothing; switch = switch_misses_nothing; store = store_misses_nothing }
