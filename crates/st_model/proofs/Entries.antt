-- Tables of objects in which one place is given an object.
use Rattle.std.proofs.Common.{◌≡◌, ◌≢◌, ℕ, zero, suc, ◌+◌, ◌<◌, [], ◌∷◌, length, get_or, Option, Some, None, refl, sym, ap, ◌∙◌, arith, false}
use Rattle.std.specs.Prelude.{slice_set}
use Rattle.std.proofs.lemmas.List.{get_or-set_same, get_or-set_other}
use Rattle.st_model.specs.Values.{Value, Ref}
use Rattle.st_model.specs.Objects.{Object}
use Rattle.st_model.specs.Table.{Table, entry, changed, total_used}
use Rattle.st_model.specs.View.{View, is_live}

pub entry-get : (t : Table) (k : ℕ) → entry t k ≡ get_or t k None
entry-get [] k = refl
entry-get (e ∷ t) zero = refl
entry-get (e ∷ t) (suc k) = entry-get t k

pub entry-set_same : (t : Table) (k : ℕ) (e : Option Object) → k < length t → entry (slice_set t k e) k ≡ e
entry-set_same t k e k_in = entry-get (slice_set t k e) k ∙ get_or-set_same t k e None k_in

pub entry-set_other : (t : Table) (k j : ℕ) (e : Option Object) → j ≢ k → entry (slice_set t k e) j ≡ entry t j
entry-set_other t k j e other = entry-get (slice_set t k e) j ∙ (get_or-set_other t k j e None other ∙ sym (entry-get t j))

-- a place that has an object is given another one
pub changed-set : (t : Table) (k : ℕ) (o p : Object) → entry t k ≡ Some o → changed t k p ≡ slice_set t k (Some p)
changed-set [] k o p e = cc
changed-set (None ∷ t) zero o p e = cc
changed-set (Some a ∷ t) zero o p e = refl
changed-set (None ∷ t) (suc k) o p e = ap (λ (u : Table). None ∷ u) (changed-set t k o p e)
changed-set (Some a ∷ t) (suc k) o p e = ap (λ (u : Table). Some a ∷ u) (changed-set t k o p e)

-- and then a third one
pub changed-again : (t : Table) (n : ℕ) (a b : Object) → changed (changed t n a) n b ≡ changed t n b
changed-again [] n a b = refl
changed-again (None ∷ t) zero a b = refl
changed-again (Some o ∷ t) zero a b = refl
changed-again (None ∷ t) (suc n) a b = ap (λ u. None ∷ u) (changed-again t n a b)
changed-again (Some o ∷ t) (suc n) a b = ap (λ u. Some o ∷ u) (changed-again t n a b)

-- it is given the object that it has
pub set-same : (t : Table) (k : ℕ) (o : Object) → entry t k ≡ Some o → slice_set t k (Some o) ≡ t
set-same [] k o e = refl
set-same (a ∷ t) zero o e = ap (λ (x : Option Object). x ∷ t) (sym e)
set-same (a ∷ t) (suc k) o e = ap (λ (u : Table). a ∷ u) (set-same t k o e)

-- a place without an object is given one
pub total_used-set : (weight : Object → ℕ) (t : Table) (k : ℕ) (o : Object) → k < length t → entry t k ≡ None
    → total_used weight (slice_set t k (Some o)) ≡ total_used weight t + weight o
total_used-set weight [] k o k_in e = absurd (omega arith)
total_used-set weight (None ∷ t) zero o k_in e = omega arith
total_used-set weight (Some a ∷ t) zero o k_in e = cc
total_used-set weight (None ∷ t) (suc k) o k_in e = total_used-set weight t k o (omega arith) e
total_used-set weight (Some a ∷ t) (suc k) o k_in e = let d = total_used-set weight t k o (omega arith) e in omega arith

pub free_at : (v : View) (x : Value) (k : ℕ) → x ≡ Ref k → entry v.objects k ≡ None → is_live v.objects x ≡ false
unfolding is_live
free_at v x k e free = rw (e, free) refl
