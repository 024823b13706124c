use Rattle.st_session.proofs.Traced.{traced}
use Rattle.st_session.proofs.laws.trace_is_run.Goals as goal

pub returns : goal.returns
returns c = λ keeping n k s d. traced keeping n k s d
