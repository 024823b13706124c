use Rattle.std.proofs.Common.{◌≡◌, length}
use Rattle.st_scan.specs.Views.{expression_view, names_view}
use Rattle.st_grammar.specs.Reading.{assigned_to}
use Rattle.st_parse.proofs.names.assigned.Given as goal

abbrev pub invariant-loop-name : goal.invariant-loop-name
invariant-loop-name l = assigned_to (names_view l.names.items) (expression_view l.value) ≡ assigned_to (names_view l.fn.names.items) (expression_view l.fn.value)

abbrev pub decreases-loop-name : goal.decreases-loop-name
decreases-loop-name l = length l.names.items
