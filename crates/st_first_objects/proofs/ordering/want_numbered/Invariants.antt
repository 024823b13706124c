use Rattle.std.proofs.Common.{◌≡◌, ◌-◌}
use Rattle.st_first_objects.specs.Orders.{want_all, numbered_from}
use Rattle.st_first_objects.proofs.ordering.want_numbered.Given as goal

abbrev pub invariant-loop-number : goal.invariant-loop-number
invariant-loop-number l = want_all l.order (numbered_from l.what l.number (l.count - l.number)) ≡ want_all l.fn.order (numbered_from l.what 0 l.count)
