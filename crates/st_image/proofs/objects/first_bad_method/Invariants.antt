use Rattle.std.proofs.Common.{◌≡◌, ℕ, ◌<◌, false}
use Rattle.st_model.specs.Faults.{method_fails}
use Rattle.st_image.proofs.objects.first_bad_method.Given as goal

abbrev pub invariant-loop-k : goal.invariant-loop-k
invariant-loop-k l = (j : ℕ) → j < l.k → method_fails l.image.head l.image.bytes.now j ≡ false
