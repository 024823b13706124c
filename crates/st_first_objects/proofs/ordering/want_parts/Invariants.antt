use Rattle.std.proofs.Common.{◌≡◌, drop}
use Rattle.st_kernel_text.specs.inside.Views.{parts_of}
use Rattle.st_first_objects.specs.Orders.{want_parts}
use Rattle.st_first_objects.proofs.ordering.want_parts.Given as goal

abbrev pub invariant-loop-number : goal.invariant-loop-number
invariant-loop-number l = want_parts l.names l.order l.number (parts_of (drop l.number l.parts)) ≡ want_parts l.names l.fn.order 0 (parts_of l.parts)
