use Rattle.st_image.proofs.FaultRows.{root_first}
use Rattle.st_image.proofs.checks.check_roots.Goals as goal

pub returns-in-Some : goal.returns-in-Some
returns-in-Some c = root_first c.args.image.now.head c.args.image.now.bytes.now c.in-Some.pointer c.in-Some.ensures
