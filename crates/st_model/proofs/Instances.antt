-- The next instance of a class is the one that bears the least pointer above another.
use Rattle.std.proofs.Common.{◌≡◌, ℕ, zero, suc, ◌+◌, ◌<◌, ◌≤◌, None, Bool, true, false, refl, arith, inl, inr, ◌⊎◌}
use Rattle.std.specs.Prelude.{◌-◌}
use Rattle.st_model.specs.Machine.{ObjectMemory, names_instance, first_instance, next_of}

module _ {H : Type 0} (m : ObjectMemory H) (h : H) (class : ℕ) where
  -- an instance of the class bears this pointer
  abbrev pub bears_instance : ℕ → Bool
  bears_instance k = names_instance m h class (m.borne_by h k)

  at_or_above : (k j : ℕ) → k ≤ j → (k ≡ j) ⊎ (suc k ≤ j)
  at_or_above k j l = grind arith

  first_here : (k left : ℕ) → bears_instance k ≡ true → first_instance m h class k (suc left) ≡ m.borne_by h k
  unfolding first_instance
  first_here k left e = rw e refl

  first_above : (k left : ℕ) → bears_instance k ≡ false → first_instance m h class k (suc left) ≡ first_instance m h class (suc k) left
  unfolding first_instance
  first_above k left e = rw e refl

  first_none : (k left : ℕ) → ((j : ℕ) → k ≤ j → j < k + left → bears_instance j ≡ false) → first_instance m h class k left ≡ None
  unfolding first_instance
  first_none k zero f = refl
  first_none k (suc left) f = rw (f k (omega arith) (omega arith)) (first_none (suc k) left (λ j l r. f j (omega arith) (omega arith)))

  first_found : (k left j : ℕ) → k ≤ j → j < k + left → bears_instance j ≡ true → ((i : ℕ) → k ≤ i → i < j → bears_instance i ≡ false) → first_instance m h class k left ≡ m.borne_by h j
  first_found k zero j l r e f = absurd (omega arith)
  first_found k (suc left) j l r e f = elim (at_or_above k j l) [
    | inl q ↦ rw (← q) (first_here k left (rw q e))
    | inr q ↦ rw (first_above k left (f k (omega arith) (omega arith))) (first_found (suc k) left j q (omega arith) e (λ i a b. f i (omega arith) b))
  ]

  -- no pointer above it is borne by an instance
  pub next_of-none : (after : ℕ) → ((j : ℕ) → after < j → j ≤ 32767 → bears_instance j ≡ false) → next_of m h class after ≡ None
  unfolding next_of
  next_of-none after f = first_none (suc after) (32767 - after) (λ j l r. f j (omega arith) (omega arith))

  -- this one is, and none between
  pub next_of-found : (after j : ℕ) → after < j → j ≤ 32767 → bears_instance j ≡ true → ((i : ℕ) → after < i → i < j → bears_instance i ≡ false) → next_of m h class after ≡ m.borne_by h j
  unfolding next_of
  next_of-found after j l r e f = first_found (suc after) (32767 - after) j (omega arith) (omega arith) e (λ i a b. f i (omega arith) b)
