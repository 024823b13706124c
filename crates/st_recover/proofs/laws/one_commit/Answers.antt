use Rattle.st_recover.proofs.Determined.{same_commit}
use Rattle.st_recover.proofs.laws.one_commit.Goals as goal

pub returns : goal.returns
returns c name x y f a b = same_commit name x y f a b
