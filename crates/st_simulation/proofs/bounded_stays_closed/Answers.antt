-- The law is lemmas.
use Rattle.st_simulation.proofs.Closed.{step_closed, number_closed}
use Rattle.st_simulation.proofs.Going.{number_names_top}
use Rattle.st_simulation.proofs.bounded_stays_closed.Goals as goal

pub returns-clause-bytecode : goal.returns-clause-bytecode
returns-clause-bytecode c = λ b d o k e. step_closed b d o k e

pub returns-clause-primitive : goal.returns-clause-primitive
returns-clause-primitive c = λ k n b d o h e. number_closed k n b d o h e

pub returns-clause-says : goal.returns-clause-says
returns-clause-says c = number_names_top
