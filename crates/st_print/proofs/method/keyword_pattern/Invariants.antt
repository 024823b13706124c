use Rattle.std.proofs.Common.{◌≡◌, ◌++◌, drop}
use Rattle.st_print.specs.Words.{spaced}
use Rattle.st_scan.specs.Views.{names_view}
use Rattle.st_print.specs.Printed.{keyword_pattern}
use Rattle.st_print.proofs.method.keyword_pattern.Given as goal

abbrev pub invariant-loop-name : goal.invariant-loop-name
invariant-loop-name l = l.out.items ++ spaced (keyword_pattern l.rest (names_view (drop l.name-index l.names))) ≡ l.fn.out.items ++ spaced (keyword_pattern l.fn.selector (names_view l.names))
