use Rattle.std.proofs.Common.{◌≡◌, ℕ, ◌<◌, length}
use Rattle.st_image.specs.inside.Spans.{span}
use Rattle.st_image.specs.inside.Sizes.{span_of}
use Rattle.st_image.proofs.objects.spans_of.Given as goal

abbrev pub invariant-loop-k : goal.invariant-loop-k
invariant-loop-k l = record {
  length : length l.spans.items ≡ l.k;
  spans : (j : ℕ) → j < l.k → span l.spans.items j ≡ span_of l.image.head l.image.bytes.now j;
}
