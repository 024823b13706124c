-- What is settled depends on which roots there are, and not on their order or number.
use Rattle.std.proofs.Common.{ℕ, List, [], ◌∷◌, ◌++◌, zero, suc, Bool, inl, inr, ◌⊎◌, replicate}
use Rattle.st_model.specs.Values.{Value}
use Rattle.st_model.specs.Machine.{ObjectMemory}
use Rattle.st_model.specs.Settled.{IsRefTo, AnyRefTo, IsRoot, SupportsItself, IsSettled}

pub any_either : (n : ℕ) (xs ys : List Value) → AnyRefTo n (xs ++ ys) → AnyRefTo n xs ⊎ AnyRefTo n ys
any_either n [] ys h = inr h
any_either n (x ∷ xs) ys (inl h) = inl (inl h)
any_either n (x ∷ xs) ys (inr h) = elim (any_either n xs ys h) [ inl k ↦ inl (inr k) | inr k ↦ inr k ]

pub any_left : (n : ℕ) (xs ys : List Value) → AnyRefTo n xs → AnyRefTo n (xs ++ ys)
any_left n [] ys h = absurd h
any_left n (x ∷ xs) ys (inl h) = inl h
any_left n (x ∷ xs) ys (inr h) = inr (any_left n xs ys h)

pub any_right : (n : ℕ) (xs ys : List Value) → AnyRefTo n ys → AnyRefTo n (xs ++ ys)
any_right n [] ys h = h
any_right n (x ∷ xs) ys h = inr (any_right n xs ys h)

-- a value that stands there many times is one root
pub any_replicate : (n k : ℕ) (v : Value) → AnyRefTo n (replicate k v) → IsRefTo n v
any_replicate n zero v h = absurd h
any_replicate n (suc k) v (inl h) = h
any_replicate n (suc k) v (inr h) = any_replicate n k v h

module _ {H : Type 0} (m : ObjectMemory H) (h : H) where
  supports_alike : (xs ys : List Value) → ((n : ℕ) → IsRoot m h xs n → IsRoot m h ys n) → (set : ℕ → Bool) → SupportsItself m h xs set → SupportsItself m h ys set
  supports_alike xs ys f set s = record {
    kept = s.kept;
    supported = λ n t. elim (s.supported n t) [ inl r ↦ inl (f n r) | inr r ↦ inr r ];
  }

  pub settled_alike : (xs ys : List Value) → ((n : ℕ) → IsRoot m h xs n → IsRoot m h ys n) → ((n : ℕ) → IsRoot m h ys n → IsRoot m h xs n)
      → (set : ℕ → Bool) → IsSettled m h xs set → IsSettled m h ys set
  settled_alike xs ys f g set s = record {
    supports = supports_alike xs ys f set s.supports;
    largest = λ other sup. s.largest other (supports_alike ys xs g other sup);
  }
