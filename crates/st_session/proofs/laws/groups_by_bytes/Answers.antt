use Rattle.st_session.proofs.Grouping.{groups_by_bytes}
use Rattle.st_session.proofs.laws.groups_by_bytes.Goals as goal

pub returns : goal.returns
returns c = groups_by_bytes
