use Rattle.st_scan.proofs.One.{one, some}
use Rattle.st_scan.proofs.laws.one_scan.Goals as goal

pub returns-clause-some : goal.returns-clause-some
returns-clause-some c text = some text

pub returns-clause-one : goal.returns-clause-one
returns-clause-one c text ts us e f x y = one text ts us e f x y
