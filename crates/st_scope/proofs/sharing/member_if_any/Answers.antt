use Rattle.st_scope.proofs.LeftTables.{member-any, member-died}
use Rattle.st_scope.proofs.sharing.member_if_any.Goals as goal

pub returns-in-Ok-clause-member : goal.returns-in-Ok-clause-member
returns-in-Ok-clause-member g c = member-any c.args.names c.args.text.now (g.M.Memory.view c.args.m.now).objects c.in-Ok.association c.in-Ok.ensures.member

pub returns-in-Err-clause-member : goal.returns-in-Err-clause-member
returns-in-Err-clause-member g c = member-died c.args.names c.args.text.now (g.M.Memory.view c.args.m.now).objects c.in-Err.field-0 c.in-Err.ensures.member
