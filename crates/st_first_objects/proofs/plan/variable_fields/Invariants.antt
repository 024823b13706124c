use Rattle.std.proofs.Common.{◌≡◌, ◌++◌, drop}
use Rattle.std.specs.Prelude.{map}
use Rattle.st_kernel_text.specs.inside.Lists.{texts_of}
use Rattle.st_first_objects.specs.declared.thing.What.TheVariants.{Variable}
use Rattle.st_first_objects.specs.Things.{within}
use Rattle.st_first_objects.specs.Contents.{all_of}
use Rattle.st_first_objects.specs.inside.Views.{fields_of}
use Rattle.st_first_objects.proofs.plan.variable_fields.Given as goal

abbrev pub invariant-loop-name : goal.invariant-loop-name
invariant-loop-name l = fields_of l.fields.items ++ all_of (map (within Variable l.number) (texts_of (drop l.name-index l.names))) ≡ all_of (map (within Variable l.number) (texts_of l.names))
