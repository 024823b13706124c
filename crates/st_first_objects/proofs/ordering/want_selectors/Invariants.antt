use Rattle.std.proofs.Common.{◌≡◌, drop}
use Rattle.st_first_objects.specs.Orders.{want_all, selector_symbols}
use Rattle.st_emit.specs.Selectors.{sends_now}
use Rattle.st_first_objects.proofs.ordering.want_selectors.Given as goal

abbrev pub invariant-loop-selector : goal.invariant-loop-selector
invariant-loop-selector l = want_all l.order (selector_symbols (sends_now (drop l.selector-index l.selectors))) ≡ want_all l.fn.order (selector_symbols (sends_now l.selectors))
