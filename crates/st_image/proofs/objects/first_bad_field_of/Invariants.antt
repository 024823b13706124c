use Rattle.std.proofs.Common.{◌≡◌, ℕ, ◌<◌, false}
use Rattle.st_model.specs.Faults.{field_fails}
use Rattle.st_image.proofs.objects.first_bad_field_of.Given as goal

abbrev pub invariant-loop-i : goal.invariant-loop-i
invariant-loop-i l = (j : ℕ) → j < l.i → field_fails l.image.head l.image.bytes.now l.k j ≡ false
