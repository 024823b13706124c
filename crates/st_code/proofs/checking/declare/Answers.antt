use Rattle.std.proofs.Common.{take, rules}
use Rattle.st_scan.specs.Views.{name_view, names_view}
use Rattle.st_emit.specs.inside.NameViews.{scope_view}
use Rattle.st_code.specs.declared.fault.CodeFault.{CodeFault}
use Rattle.st_code.specs.Reported.{IsFault}
use Rattle.st_code.specs.Faults.{declare_fault}
use Rattle.st_code.specs.inside.ChainFaults.{among_fault}
use Rattle.st_code.proofs.Declaring.{declare_goes_on, declare_stops}
use Rattle.st_code.proofs.checking.declare.Goals as goal

pub loop-i-preserved : goal.loop-i-preserved
loop-i-preserved c = declare_goes_on c.args.frame.names.now (scope_view c.args.scope.now) c.loop-i.i c.index-names-i.result _ c.loop-i-test.true c.index-names-i.is c.in_ok-once.ensures c.loop-i.invariant

pub returns-in_err-once : goal.returns-in_err-once
returns-in_err-once c =
    let scope = scope_view c.args.scope.now in
    let names = c.args.frame.names.now in
    let stop : (f : CodeFault) → IsFault (among_fault scope (names_view (take c.loop-i.i names)) (name_view c.index-names-i.result)) f → IsFault (declare_fault 0 (names_view names) scope) f =
    declare_stops names scope c.loop-i.i c.index-names-i.result _ c.loop-i-test.true c.index-names-i.is c.loop-i.invariant in
    search (rules, stop)
