use Rattle.std.proofs.Common.{codes, refl}
use Rattle.st_changes.proofs.Fronts.{begins_is}
use Rattle.st_changes.proofs.header.find_side.Goals as goal

pub returns-then-starts_with-2 : goal.returns-then-starts_with-2
returns-then-starts_with-2 c = record { is = begins_is c.args.text.now (codes " methodsFor: '") c.if-starts_with-2.ensures.value; long = refl }
