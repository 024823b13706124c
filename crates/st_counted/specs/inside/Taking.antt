-- Objects taken away one after the other, as counting reclaims them (chapter 30), and what is left then.
use Rattle.std.specs.Prelude.{◌≡◌, ℕ, List, [], ◌∷◌, Bool, false, ◌&&◌, ◌==◌, not, IsTrue}
use Rattle.st_model.specs.Values.{Value}
use Rattle.st_model.specs.Machine.{ObjectMemory}
use Rattle.st_model.specs.Settled.{IsRoot, IsReferredFrom, SupportsItself, IsSettled}

-- a member of the set that is neither a root nor referred to by a member
pub record IsUnsupported {H : Type 0} (m : ObjectMemory H) (h : H) (roots : List Value) (set : ℕ → Bool) (n : ℕ) : Type 0 where
  pub member : IsTrue (set n)
  pub no_root : IsRoot m h roots n → ⊥
  pub no_referred : IsReferredFrom m h set n → ⊥

-- the set without n
abbrev pub without : (ℕ → Bool) → ℕ → ℕ → Bool
without set n k = set k && not (k == n)

-- These are taken away from the set one after the other, each unsupported among the members that it is taken from; the last set
-- is what is left.
abbrev pub TakesAway : {H : Type 0} → ObjectMemory H → H → List Value → (ℕ → Bool) → List ℕ → (ℕ → Bool) → Type 0
TakesAway m h roots set [] left = (n : ℕ) → left n ≡ set n
TakesAway m h roots set (n ∷ ns) left = IsUnsupported m h roots set n × TakesAway m h roots (without set n) ns left

-- a kept object that is taken away is in no set that supports itself
abbrev pub TakesNoneSupported : {H : Type 0} → ObjectMemory H → Type 0
TakesNoneSupported {H = H} m = (h : H) (roots : List Value) (order : List ℕ) (left other : ℕ → Bool)
    → TakesAway m h roots (m.kept h) order left → SupportsItself m h roots other
    → (n : ℕ) → left n ≡ false → other n ≡ false

-- where none is left that could be taken away, what is left supports itself
abbrev pub LeftSupportsItself : {H : Type 0} → ObjectMemory H → Type 0
LeftSupportsItself {H = H} m = (h : H) (roots : List Value) (order : List ℕ) (left : ℕ → Bool)
    → TakesAway m h roots (m.kept h) order left → ((n : ℕ) → IsUnsupported m h roots left n → ⊥)
    → SupportsItself m h roots left

-- so it is the largest set that does, whatever the order was
abbrev pub TakingSettles : {H : Type 0} → ObjectMemory H → Type 0
TakingSettles {H = H} m = (h : H) (roots : List Value) (order : List ℕ) (left : ℕ → Bool)
    → TakesAway m h roots (m.kept h) order left → ((n : ℕ) → IsUnsupported m h roots left n → ⊥)
    → IsSettled m h roots left
