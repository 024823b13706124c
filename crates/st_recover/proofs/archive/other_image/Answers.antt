use Rattle.std.proofs.Common.{sym, arith}
use Rattle.st_recover.proofs.Beside.{turned_up, turned_down}
use Rattle.st_recover.proofs.archive.other_image.Goals as goal

pub returns-then-slot-eq0 : goal.returns-then-slot-eq0
returns-then-slot-eq0 c = sym (turned_up c.args.slot c.if-slot-eq0.true)

pub returns-else-slot-eq0 : goal.returns-else-slot-eq0
returns-else-slot-eq0 c = let e = turned_down c.args.slot c.if-slot-eq0.false in omega (arith, e)
