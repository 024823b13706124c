-- A sum over the objects of a table is the same sum over the kept births whose objects they are.
use Rattle.std.proofs.Common.{◌≡◌, ◌≢◌, ℕ, ◌+◌, [], ◌∷◌, zero, suc, Option, Some, None, Bool, true, false, refl, sym, ◌∙◌, ap, subst, arith, inl, inr, ◌⊎◌}
use Rattle.std.specs.Prelude.{if◌then◌else◌}
use Rattle.st_model.specs.Objects.{Object, renamed_object, words_of}
use Rattle.st_model.specs.Births.{Birth, Births, object_born, kept_pointer, total_kept}
use Rattle.st_model.specs.Show.{IsKept}
use Rattle.st_model.specs.Table.{Table, entry, total_used}
use Rattle.st_simulation.proofs.Same.{length-renamed}

pub words_of-renamed : (f : ℕ → ℕ) (o : Object) → words_of (renamed_object f o) ≡ words_of o
words_of-renamed f o = rw length-renamed refl

-- the table without the object at a place
cleared : Table → ℕ → Table
cleared [] p = []
cleared (e ∷ t) zero = None ∷ t
cleared (e ∷ t) (suc p) = e ∷ cleared t p

cleared-other : (t : Table) (p k : ℕ) → k ≢ p → entry (cleared t p) k ≡ entry t k
unfolding cleared
cleared-other [] p k n = refl
cleared-other (e ∷ t) zero zero n = absurd (n refl)
cleared-other (e ∷ t) zero (suc k) n = refl
cleared-other (e ∷ t) (suc p) zero n = refl
cleared-other (e ∷ t) (suc p) (suc k) n = cleared-other t p k (λ q. n (ap (λ x. suc x) q))

cleared-here : (t : Table) (p : ℕ) → entry (cleared t p) p ≡ None
unfolding cleared
cleared-here [] p = refl
cleared-here (e ∷ t) zero = refl
cleared-here (e ∷ t) (suc p) = cleared-here t p

not_there : (t : Table) (p k : ℕ) (a : Object) → entry (cleared t p) k ≡ Some a → k ≢ p
not_there t p k a e x =
    let y = cleared-here t p in
    let z : entry (cleared t p) p ≡ Some a = subst (λ w. entry (cleared t p) w ≡ Some a) x e in
    cc

pointer_cases : (o : Option ℕ) → (o ≡ None) ⊎ ((p : ℕ) × o ≡ Some p)
pointer_cases None = inl refl
pointer_cases (Some p) = inr (p, refl)

entry_none : (o : Option Object) → ((a : Object) → o ≢ Some a) → o ≡ None
entry_none None f = refl
entry_none (Some a) f = absurd (f a refl)

module _ (weight : Object → ℕ) where
  -- each kept birth has its object in the table, under the name that it is given, and the table has no other
  pub record Matches (name : ℕ → ℕ) (h : Births) (t : Table) : Type 0 where
    pub there : (n : ℕ) → IsKept h n → (o : Object) × (a : Object) × (object_born h n ≡ Some o) × (entry t (name n) ≡ Some a) × (weight a ≡ weight o)
    pub only : (p : ℕ) (a : Object) → entry t p ≡ Some a → (n : ℕ) × IsKept h n × (name n ≡ p)
    pub distinct : (m n : ℕ) → IsKept h m → IsKept h n → name m ≡ name n → m ≡ n

  total-cleared : (t : Table) (p : ℕ) (o : Object) → entry t p ≡ Some o → total_used weight t ≡ weight o + total_used weight (cleared t p)
  unfolding cleared
  total-cleared [] p o e = cc
  total-cleared (None ∷ t) zero o e = cc
  total-cleared (Some a ∷ t) zero o e = let q : a ≡ o = cc in rw q refl
  total-cleared (None ∷ t) (suc p) o e = total-cleared t p o e
  total-cleared (Some a ∷ t) (suc p) o e = let q = total-cleared t p o e in omega (arith, q)

  no_total : (t : Table) → ((k : ℕ) → entry t k ≡ None) → total_used weight t ≡ 0
  no_total [] f = refl
  no_total (None ∷ t) f = no_total t (λ k. f (suc k))
  no_total (Some a ∷ t) f = let e = f 0 in cc

  only_later : (name : ℕ → ℕ) (b : Birth) (h : Births) (n p : ℕ) → IsKept (b ∷ h) n → name n ≡ p → (IsKept (b ∷ h) 0 → name 0 ≢ p)
      → (m : ℕ) × IsKept h m × (name (suc m) ≡ p)
  only_later name b h zero p k e f = absurd (f k e)
  only_later name b h (suc n) p k e f = (n, k, e)

  later : (name : ℕ → ℕ) (b : Birth) (h : Births) (t : Table) → Matches name (b ∷ h) t → kept_pointer b ≡ None → Matches (λ n. name (suc n)) h t
  later name b h t m e = record {
    there = λ n k. m.there (suc n) k;
    only = λ p a q. let n = m.only p a q in only_later name b h n.0 p n.1 n.2 (λ k x. let y = k.1 in absurd (cc));
    distinct = λ x y k l e. let q = m.distinct (suc x) (suc y) k l e in omega (arith, q);
  }

  apart : (name : ℕ → ℕ) (b : Birth) (h : Births) (t : Table) (n : ℕ) → Matches name (b ∷ h) t → IsKept (b ∷ h) 0 → IsKept h n → name (suc n) ≢ name 0
  apart name b h t n m k l e = let y : suc n ≡ 0 = m.distinct (suc n) 0 l k e in absurd (omega arith)

  rest : (name : ℕ → ℕ) (b : Birth) (h : Births) (t : Table) → Matches name (b ∷ h) t → IsKept (b ∷ h) 0 → Matches (λ n. name (suc n)) h (cleared t (name 0))
  rest name b h t m k = record {
    there = λ n l.
        let r = m.there (suc n) l in
        (r.0, r.1, r.2, cleared-other t (name 0) (name (suc n)) (apart name b h t n m k l) ∙ r.3, r.4);
    only = λ p a q.
        let d = not_there t (name 0) p a q in
        let n = m.only p a (sym (cleared-other t (name 0) p d) ∙ q) in
        only_later name b h n.0 p n.1 n.2 (λ l x. d (sym x));
    distinct = λ x y k l e. let q = m.distinct (suc x) (suc y) k l e in omega (arith, q);
  }

  kept_weight : (kept : Bool) (q p w : ℕ) → (if kept then Some q else None) ≡ Some p → (if kept then w else 0) ≡ w
  kept_weight true q p w e = refl
  kept_weight false q p w e = cc

  lost_weight : (kept : Bool) (q w : ℕ) → (if kept then Some q else None) ≡ None → (if kept then w else 0) ≡ 0
  lost_weight true q w e = cc
  lost_weight false q w e = refl

  pub total_matches : (name : ℕ → ℕ) (h : Births) (t : Table) → Matches name h t → total_used weight t ≡ total_kept weight h
  total_matches name [] t m = no_total t (λ k. entry_none (entry t k) (λ a e. let n = m.only k a e in let x = n.1.1 in absurd (cc)))
  total_matches name (b ∷ h) t m = elim (pointer_cases (kept_pointer b)) [
    | inl e ↦
        let a = total_matches (λ n. name (suc n)) h t (later name b h t m e) in
        let w = lost_weight b.kept b.pointer (weight b.object) e in
        omega (arith, a, w)
    | inr p ↦
        let r = m.there 0 p in
        let a = total_matches (λ n. name (suc n)) h (cleared t (name 0)) (rest name b h t m p) in
        let q = total-cleared t (name 0) r.1 r.3 in
        let w = kept_weight b.kept b.pointer p.0 (weight b.object) p.1 in
        let o : b.object ≡ r.0 = let x = r.2 in cc in
        let v = ap weight o in
        let x = r.4 in
        omega (arith, a, q, w, v, x)
  ]
