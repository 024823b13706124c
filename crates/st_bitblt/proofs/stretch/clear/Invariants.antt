use Rattle.std.proofs.Common.{◌≡◌, ℕ, ◌<◌, ◌≤◌, get_or}
use Rattle.st_bitblt.proofs.stretch.clear.Given as goal

abbrev pub invariant-loop-k : goal.invariant-loop-k
invariant-loop-k l = record {
  from : l.from ≤ l.k;
  kept : (i : ℕ) → i < l.from → get_or l.words i 0 ≡ get_or l.fn.words i 0;
  zeros : (i : ℕ) → l.from ≤ i → i < l.k → get_or l.words i 0 ≡ 0;
}
