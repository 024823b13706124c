use Rattle.std.proofs.Common.{◌≡◌, false, ◌++◌, take, drop}
use Rattle.st_scan.specs.Views.{names_view}
use Rattle.st_emit.specs.Names.{numbered}
use Rattle.st_emit.specs.inside.NameViews.{scope_view}
use Rattle.st_code.specs.Faults.{declare_fault}
use Rattle.st_code.proofs.checking.declare.Given as goal

abbrev pub invariant-loop-i : goal.invariant-loop-i
invariant-loop-i l =
    declare_fault l.i (names_view (drop l.i l.names)) (scope_view l.scope ++ numbered false 0 (names_view (take l.i l.names)))
    ≡ declare_fault 0 (names_view l.names) (scope_view l.scope)
