-- What stands in a list to whose end something was added, for any way to read it by numbers.
use Rattle.std.proofs.Common.{◌≡◌, ◌≢◌, ℕ, List, [], ◌∷◌, zero, suc, None, Option, refl, sym, ap, ◌∙◌, length}

-- what is added becomes an element behind all others, and an element is read as this
pub record Adds {A B C : Type 0} (add : List A → C → List A) (element : C → A) (read : List A → ℕ → Option B) (content : A → Option B) : Type 0 where
  pub last : (c : C) → add [] c ≡ element c ∷ []
  pub behind : (x : A) (xs : List A) (c : C) → add (x ∷ xs) c ≡ x ∷ add xs c
  pub none : (n : ℕ) → read [] n ≡ None
  pub first : (x : A) (xs : List A) → read (x ∷ xs) zero ≡ content x
  pub next : (x : A) (xs : List A) (n : ℕ) → read (x ∷ xs) (suc n) ≡ read xs n

module _ {A B C : Type 0} {add : List A → C → List A} {element : C → A} {read : List A → ℕ → Option B} {content : A → Option B} (h : Adds add element read content) where
  pub added-last : (xs : List A) (c : C) → read (add xs c) (length xs) ≡ content (element c)
  added-last [] c = rw (h.last c, h.first (element c) []) refl
  added-last (x ∷ xs) c = rw (h.behind x xs c, h.next x (add xs c) (length xs)) (added-last xs c)

  pub added-other : (xs : List A) (c : C) (n : ℕ) → n ≢ length xs → read (add xs c) n ≡ read xs n
  added-other [] c zero d = absurd (d refl)
  added-other [] c (suc n) d = rw (h.last c, h.next (element c) [] n) (h.none n ∙ sym (h.none (suc n)))
  added-other (x ∷ xs) c zero d = rw (h.behind x xs c, h.first x (add xs c), h.first x xs) refl
  added-other (x ∷ xs) c (suc n) d = rw (h.behind x xs c, h.next x (add xs c) n, h.next x xs n) (added-other xs c n (λ q. d (ap (λ k. suc k) q)))

  pub length-added : (xs : List A) (c : C) → length (add xs c) ≡ suc (length xs)
  length-added [] c = rw (h.last c) refl
  length-added (x ∷ xs) c = rw (h.behind x xs c) (ap (λ n. suc n) (length-added xs c))
