use Rattle.st_scope.proofs.LeftTables.{every_table, no_table, table_has, table_passed}
use Rattle.st_scope.proofs.sharing.association_in.Goals as goal

pub loop-names-init : goal.loop-names-init
loop-names-init g c = every_table c.args.tables.now c.args.text.now (g.M.Memory.view c.args.m.now).objects

pub returns-in-Some-clause-association : goal.returns-in-Some-clause-association
returns-in-Some-clause-association g c =
    table_has c.args.tables.now c.args.text.now (g.M.Memory.view c.args.m.now).objects c.loop-names.names-index _ c.loop-names-test.true c.loop-names.invariant
    c.member_if_any.result c.member_if_any.ensures.member c.in-Some.association c.in-Some.is

pub loop-names-preserved : goal.loop-names-preserved
loop-names-preserved g c =
    table_passed c.args.tables.now c.args.text.now (g.M.Memory.view c.args.m.now).objects c.loop-names.names-index _ c.loop-names-test.true c.loop-names.invariant
    c.member_if_any.result c.member_if_any.ensures.member c.in_default.is

pub returns-clause-association : goal.returns-clause-association
returns-clause-association g c = no_table c.args.tables.now c.args.text.now (g.M.Memory.view c.args.m.now).objects c.loop-names.names-index c.loop-names-test.false c.loop-names.invariant
