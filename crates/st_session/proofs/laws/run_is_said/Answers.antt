-- The law is a lemma.
use Rattle.st_session.proofs.Reported.{said_at}
use Rattle.st_session.proofs.laws.run_is_said.Goals as goal

pub returns : goal.returns
returns c = said_at
