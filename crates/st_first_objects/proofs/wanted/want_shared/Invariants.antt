use Rattle.std.proofs.Common.{◌≡◌, drop}
use Rattle.st_kernel_text.specs.inside.Lists.{texts_of}
use Rattle.st_first_objects.specs.Orders.{want_all, shared_things}
use Rattle.st_first_objects.proofs.wanted.want_shared.Given as goal

abbrev pub invariant-loop-name : goal.invariant-loop-name
invariant-loop-name l = want_all l.order (shared_things l.number (texts_of (drop l.name-index l.names))) ≡ want_all l.fn.order (shared_things l.number (texts_of l.names))
