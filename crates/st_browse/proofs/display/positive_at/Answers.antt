use Rattle.std.proofs.Common.{rules, arith}
use Rattle.st_model.specs.Values.{value}
use Rattle.st_browse.proofs.Forms.{number_read, number_large, numbers}
use Rattle.st_browse.proofs.display.positive_at.Goals as goal

pub returns-then-n-lt16384-clause-number : goal.returns-then-n-lt16384-clause-number
returns-then-n-lt16384-clause-number g c =
    number_read (g.M.Memory.view c.args.m.now).objects (value c.args.o) c.args.i c.in_ok-x.x.0 c.from-n.result c.in_ok-x.ensures.field (search rules) (search rules) c.if-n-lt16384.true

pub returns-else-n-lt16384-clause-number : goal.returns-else-n-lt16384-clause-number
returns-else-n-lt16384-clause-number g c =
    number_large (g.M.Memory.view c.args.m.now).objects (value c.args.o) c.args.i c.in_ok-x.x.0 c.from-n.result c.in_ok-x.ensures.field (search rules) (search rules) c.if-n-lt16384.false

pub returns-in_err-x-clause-number : goal.returns-in_err-x-clause-number
returns-in_err-x-clause-number g c = grind (arith, numbers)

pub returns-then-not-is_small-clause-number : goal.returns-then-not-is_small-clause-number
returns-then-not-is_small-clause-number g c = grind (arith, numbers)
