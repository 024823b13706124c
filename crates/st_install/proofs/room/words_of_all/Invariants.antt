use Rattle.std.proofs.Common.{◌≡◌, ◌+◌, drop}
use Rattle.st_install.specs.Plans.{words_of_all}
use Rattle.st_install.specs.inside.Readies.{objects_of}
use Rattle.st_install.proofs.room.words_of_all.Given as goal

abbrev pub invariant-loop-object : goal.invariant-loop-object
invariant-loop-object l = l.words + words_of_all (objects_of (drop l.object-index l.objects)) ≡ words_of_all (objects_of l.objects)
