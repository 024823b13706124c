use Rattle.st_image.proofs.FaultRows.{field_first}
use Rattle.st_image.proofs.checks.check_fields.Goals as goal

pub returns-in-Some : goal.returns-in-Some
returns-in-Some c = field_first c.args.image.now.head c.args.image.now.bytes.now (c.in-Some.k, c.in-Some.i) c.in-Some.ensures.first
