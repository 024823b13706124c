use Rattle.std.proofs.Common.{arith}
use Rattle.st_browse.proofs.Forms.{held}
use Rattle.st_browse.proofs.display.find_display.Goals as goal

pub returns-then-o-clause-form : goal.returns-then-o-clause-form
returns-then-o-clause-form g c = grind (arith, held)

pub returns-else-o-clause-form : goal.returns-else-o-clause-form
returns-else-o-clause-form g c = grind (arith, held)
