use Rattle.st_session.proofs.Lawful.{session_law}
use Rattle.st_session.proofs.laws.commits_are_acknowledged.Goals as goal

pub returns : goal.returns
returns c = session_law
