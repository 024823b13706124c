use Rattle.std.proofs.Common.{◌≡◌, ◌++◌, drop}
use Rattle.st_print.specs.Words.{spaced}
use Rattle.st_scan.specs.Views.{elements_view}
use Rattle.st_print.specs.Printed.{elements_words}
use Rattle.st_print.proofs.literal.+literals.Given as goal

abbrev pub invariant-all_elements-loop-element : goal.invariant-all_elements-loop-element
invariant-all_elements-loop-element l = l.out.items ++ spaced (elements_words (elements_view (drop l.element-index l.elements))) ≡ l.fn.out.items ++ spaced (elements_words (elements_view l.elements))
