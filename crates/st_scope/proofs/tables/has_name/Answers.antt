use Rattle.st_scope.proofs.TextsAt.{name-none, names}
use Rattle.std.proofs.Common.{arith}
use Rattle.st_scope.proofs.tables.has_name.Goals as goal

pub returns-in-Err-clause-named : goal.returns-in-Err-clause-named
returns-in-Err-clause-named g c = name-none c.args.v c.args.text.now (g.M.Memory.view c.args.m.now).objects c.in-Err.field-0 c.in-Err.ensures.key

pub returns-in-Ok-clause-named : goal.returns-in-Ok-clause-named
returns-in-Ok-clause-named g c = grind (arith, names)
