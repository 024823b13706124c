use Rattle.st_image.proofs.FaultRows.{method_first}
use Rattle.st_image.proofs.checks.check_methods.Goals as goal

pub returns-in-Some : goal.returns-in-Some
returns-in-Some c = method_first c.args.image.now.head c.args.image.now.bytes.now c.in-Some.k c.in-Some.ensures
