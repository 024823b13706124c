use Rattle.std.proofs.Common.{◌≡◌, ◌++◌, length}
use Rattle.st_scan.specs.Views.{names_view}
use Rattle.st_grammar.specs.Reading.{targets_at}
use Rattle.st_parse.proofs.names.targets.Given as goal

abbrev pub invariant-loop-name : goal.invariant-loop-name
invariant-loop-name l = (names_view l.names.items ++ (targets_at l.text l.rest).0, (targets_at l.text l.rest).1) ≡ targets_at l.text l.leaves

abbrev pub decreases-loop-name : goal.decreases-loop-name
decreases-loop-name l = length l.rest
