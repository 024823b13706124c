use Rattle.std.proofs.Common.{◌≡◌, ℕ, ◌<◌, false}
use Rattle.st_model.specs.Faults.{field_fails}
use Rattle.st_image.proofs.objects.first_bad_field.Given as goal

abbrev pub invariant-loop-k : goal.invariant-loop-k
invariant-loop-k l = (k i : ℕ) → k < l.k → field_fails l.image.head l.image.bytes.now k i ≡ false
