use Rattle.std.proofs.Common.{◌≡◌, drop}
use Rattle.std.specs.Prelude.{map}
use Rattle.st_kernel_text.specs.inside.Lists.{texts_of}
use Rattle.st_first_objects.specs.declared.thing.What.TheVariants.{Variable}
use Rattle.st_first_objects.specs.Things.{within}
use Rattle.st_first_objects.specs.Orders.{want_all}
use Rattle.st_first_objects.proofs.wanted.want_variables.Given as goal

abbrev pub invariant-loop-name : goal.invariant-loop-name
invariant-loop-name l = want_all l.order (map (within Variable l.number) (texts_of (drop l.name-index l.names))) ≡ want_all l.fn.order (map (within Variable l.number) (texts_of l.names))
