use Rattle.std.proofs.Common.{◌≡◌, ◌++◌, drop}
use Rattle.st_print.specs.Words.{spaced}
use Rattle.st_scan.specs.Views.{names_view}
use Rattle.st_print.specs.Printed.{parameter_words}
use Rattle.st_print.proofs.expression.each_parameter.Given as goal

abbrev pub invariant-loop-name : goal.invariant-loop-name
invariant-loop-name l = l.out.items ++ spaced (parameter_words (names_view (drop l.name-index l.names))) ≡ l.fn.out.items ++ spaced (parameter_words (names_view l.names))
