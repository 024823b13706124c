use Rattle.st_step.proofs.Failing.{response_still}
use Rattle.st_step.proofs.numbers.perform_by.Goals as goal

pub returns-in_default-clause-still : goal.returns-in_default-clause-still
returns-in_default-clause-still g c = response_still g.O.Objects _ _ _ _ _ _ _ c.respond_by.ensures.does
