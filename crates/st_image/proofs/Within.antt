-- Where the entries of a table lie.
use Rattle.std.proofs.Common.{◌≡◌, ℕ, ◌+◌, ◌*◌, ◌/◌, ◌<◌, ◌≤◌, ◌⊎◌, inl, inr, subst, sym, arith}
use Rattle.std.proofs.lemmas.Bool.{cases_lt}

two_or_three : (w : ℕ) → 2 ≤ w → w ≤ 3 → (w ≡ 2) ⊎ (w ≡ 3)
two_or_three w some few = by_less (cases_lt w 3)
  where
    by_less : ((w < 3) ⊎ (3 ≤ w)) → (w ≡ 2) ⊎ (w ≡ 3)
    by_less (inl l) = inl (omega (arith, some, l))
    by_less (inr l) = inr (omega (arith, few, l))

-- an entry of a table of t words lies in it
pub entry_within : (t k w : ℕ) → 2 ≤ w → w ≤ 3 → k < t / w → 2 * w * k + 2 * w ≤ 2 * t
entry_within t k w some few l = last (two_or_three w some few)
  where
    last : ((w ≡ 2) ⊎ (w ≡ 3)) → 2 * w * k + 2 * w ≤ 2 * t
    last (inl e) = let a = subst (λ n. k < t / n) e l in subst (λ n. 2 * n * k + 2 * n ≤ 2 * t) (sym e) (omega (arith, a))
    last (inr e) = let a = subst (λ n. k < t / n) e l in subst (λ n. 2 * n * k + 2 * n ≤ 2 * t) (sym e) (omega (arith, a))

pub ruleset entries = (entry_within)
