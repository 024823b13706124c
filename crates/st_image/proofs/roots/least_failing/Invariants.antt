use Rattle.st_model.specs.Faults.{root_fails}
use Rattle.st_image.specs.inside.Passes.{IsLeastAmong}
use Rattle.st_image.proofs.roots.least_failing.Given as goal

abbrev pub invariant-loop-pointer : goal.invariant-loop-pointer
invariant-loop-pointer l = IsLeastAmong (root_fails l.image.head l.image.bytes.now) l.pointers l.pointer-index l.least
