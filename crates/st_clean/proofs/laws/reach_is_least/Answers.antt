use Rattle.st_clean.proofs.Closed.{reach_closed, reach_least}
use Rattle.st_clean.proofs.laws.reach_is_least.Goals as goal

pub returns-clause-closed : goal.returns-clause-closed
returns-clause-closed c = reach_closed

pub returns-clause-least : goal.returns-clause-least
returns-clause-least c = reach_least
