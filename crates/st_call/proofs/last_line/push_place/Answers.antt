use Rattle.std.proofs.Common.{sym, ap}
use Rattle.st_call.proofs.Pushing.{push_as}
use Rattle.st_call.specs.LastLines.{place_line}
use Rattle.st_call.proofs.last_line.push_place.Goals as goal

pub returns-in-Roots : goal.returns-in-Roots
returns-in-Roots g c = push_as c.push_long_line.ensures (ap place_line (sym c.in-Roots.is))

pub returns-in-Changes : goal.returns-in-Changes
returns-in-Changes g c = push_as c.push_long_line-in-Changes.ensures (ap place_line (sym c.in-Changes.is))
