use Rattle.std.proofs.Common.{◌≡◌, ℕ, ◌<◌, false}
use Rattle.st_model.specs.Faults.{class_fails}
use Rattle.st_image.proofs.objects.first_bad_class.Given as goal

abbrev pub invariant-loop-k : goal.invariant-loop-k
invariant-loop-k l = (j : ℕ) → j < l.k → class_fails l.image.head l.image.bytes.now j ≡ false
