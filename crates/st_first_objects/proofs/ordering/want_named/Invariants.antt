use Rattle.std.proofs.Common.{◌≡◌, drop}
use Rattle.st_first_objects.specs.Orders.{want_all}
use Rattle.st_first_objects.specs.inside.Views.{named_of}
use Rattle.st_first_objects.proofs.ordering.want_named.Given as goal

abbrev pub invariant-loop-what : goal.invariant-loop-what
invariant-loop-what l = want_all l.order (named_of (drop l.what-index l.named)) ≡ want_all l.fn.order (named_of l.named)
