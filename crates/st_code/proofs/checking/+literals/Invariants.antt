use Rattle.std.proofs.Common.{◌≡◌, drop}
use Rattle.st_scan.specs.Views.{elements_view}
use Rattle.st_code.specs.Faults.{elements_fault}
use Rattle.st_code.proofs.checking.+literals.Given as goal

abbrev pub invariant-elements-loop-e : goal.invariant-elements-loop-e
invariant-elements-loop-e l = elements_fault (elements_view (drop l.e-index l.es)) ≡ elements_fault (elements_view l.es)
