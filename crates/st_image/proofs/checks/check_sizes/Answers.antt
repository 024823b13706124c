use Rattle.st_image.proofs.FaultRows.{size_first}
use Rattle.st_image.proofs.checks.check_sizes.Goals as goal

pub returns-in-Some-clause-row : goal.returns-in-Some-clause-row
returns-in-Some-clause-row c = size_first c.args.image.now.head c.args.image.now.bytes.now c.in-Some.k c.in-Some.ensures
