use Rattle.std.proofs.Common.{◌-◌, length}
use Rattle.st_scan.specs.inside.Contexts.{context_of}
use Rattle.st_scan.proofs.Scanning.{Kept}
use Rattle.st_scan.proofs.scanner.scan.Given as goal

abbrev pub invariant-loop-at : goal.invariant-loop-at
invariant-loop-at l = Kept l.text l.tokens.items (context_of l.context) l.at

abbrev pub decreases-loop-at : goal.decreases-loop-at
decreases-loop-at l = length l.text - l.at
