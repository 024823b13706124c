use Rattle.std.proofs.Common.{◌≡◌, map, []}
use Rattle.st_scan.specs.Views.{names_view}
use Rattle.st_decompile.specs.Back.{places_from}
use Rattle.st_expression_stack.specs.Choosing.{called}
use Rattle.st_expression_stack.specs.inside.Called.{calling_view}
use Rattle.st_expression_stack.specs.Names.{name_in}
use Rattle.st_decompile.proofs.whole.variables_called.Given as goal

abbrev pub invariant-loop-i : goal.invariant-loop-i
invariant-loop-i l = names_view l.names.items ≡ map (λ p. called (name_in (calling_view l.calling) p)) (places_from l.first l.i [])
