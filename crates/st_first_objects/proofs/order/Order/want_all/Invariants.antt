use Rattle.std.proofs.Common.{◌≡◌, drop}
use Rattle.st_first_objects.specs.Orders.{want_all}
use Rattle.st_first_objects.specs.inside.Views.{things_of}
use Rattle.st_first_objects.proofs.order.Order.want_all.Given as goal

abbrev pub invariant-loop-thing : goal.invariant-loop-thing
invariant-loop-thing l = want_all l.self (things_of (drop l.thing-index l.things)) ≡ want_all l.fn.self (things_of l.things)
