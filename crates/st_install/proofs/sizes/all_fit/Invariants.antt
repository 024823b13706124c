use Rattle.std.proofs.Common.{◌≡◌, drop}
use Rattle.st_install.specs.Shapes.{all_fit}
use Rattle.st_install.specs.inside.Readies.{objects_of}
use Rattle.st_install.proofs.sizes.all_fit.Given as goal

abbrev pub invariant-loop-object : goal.invariant-loop-object
invariant-loop-object l = all_fit (objects_of (drop l.object-index l.objects)) ≡ all_fit (objects_of l.objects)
