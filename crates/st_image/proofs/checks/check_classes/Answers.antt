use Rattle.st_image.proofs.FaultRows.{class_first}
use Rattle.st_image.proofs.checks.check_classes.Goals as goal

pub returns-in-Some : goal.returns-in-Some
returns-in-Some c = class_first c.args.image.now.head c.args.image.now.bytes.now c.in-Some.k c.in-Some.ensures
