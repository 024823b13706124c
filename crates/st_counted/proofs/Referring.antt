-- How often objects refer, where one of them changes.
use Rattle.std.proofs.Common.{◌≡◌, ◌≢◌, ℕ, zero, suc, ◌+◌, ◌<◌, true, false, cond, List, [], ◌∷◌, ◌++◌, length, replicate, set, refl, sym, ap, ◌∙◌, subst, is_some, arith, inl, inr, ◌⊎◌}
use Rattle.std.specs.Prelude.{Option, Some, None, slice_get, slice_set}
use Rattle.st_model.specs.declared.kind.Kind.{Kind}
use Rattle.st_model.specs.declared.kind.Kind.TheVariants as kind
use Rattle.st_model.specs.Values.{Value, Ref}
use Rattle.st_model.specs.Objects.{Object, nil, with_field, object_with_unit}
use Rattle.st_model.specs.Formed.{fresh}
use Rattle.st_model.specs.Table.{Table, entry, changed, exchanged_objects, first_free, placed, filled_first}
use Rattle.st_model.specs.View.{is_live, object_of, with_stored, with_unit, with_exchanged}
use Rattle.st_model.proofs.TableLemmas.{changed-some, changed-other, placed-first, placed-other}
use Rattle.st_model.proofs.WholeLemmas.{named}
use Rattle.st_counted.specs.inside.Counts.{count_at}
use Rattle.st_counted.specs.inside.References.{times, object_uses, uses, nils_of, references, IsCounted}
use Rattle.st_counted.proofs.Tallying.{counted_alike}
use Rattle.std.proofs.lemmas.List.{get_or-set_same, get_or-set_other}

pub number_cases : (m n : ℕ) → (m ≡ n) ⊎ (m ≢ n)
number_cases m n = grind arith

pub live_changed : (t : Table) (k j : ℕ) (o : Object) → is_some (entry (changed t k o) j) ≡ is_some (entry t j)
live_changed [] k j o = refl
live_changed (None ∷ t) zero zero o = refl
live_changed (Some a ∷ t) zero zero o = refl
live_changed (None ∷ t) zero (suc j) o = refl
live_changed (Some a ∷ t) zero (suc j) o = refl
live_changed (None ∷ t) (suc k) zero o = refl
live_changed (Some a ∷ t) (suc k) zero o = refl
live_changed (None ∷ t) (suc k) (suc j) o = live_changed t k j o
live_changed (Some a ∷ t) (suc k) (suc j) o = live_changed t k j o

pub uses_changed : (n : ℕ) (t : Table) (k : ℕ) (o p : Object) → entry t k ≡ Some p → uses n (changed t k o) + object_uses n (Some p) ≡ uses n t + object_uses n (Some o)
uses_changed n [] k o p h = cc
uses_changed n (None ∷ t) zero o p h = cc
uses_changed n (Some a ∷ t) zero o p h = let s : object_uses n (Some a) ≡ object_uses n (Some p) = ap (object_uses n) h in omega (arith, s)
uses_changed n (None ∷ t) (suc k) o p h = let s = uses_changed n t k o p h in omega (arith, s)
uses_changed n (Some a ∷ t) (suc k) o p h = let s = uses_changed n t k o p h in omega (arith, s)

pub times_set : (k : ℕ) (xs : List Value) (i : ℕ) (x old : Value) → slice_get xs i ≡ Some old → times k (set xs i x) + times k (old ∷ []) ≡ times k xs + times k (x ∷ [])
times_set k [] i x old h = cc
times_set k (y ∷ ys) zero x old h = let s : times k (y ∷ []) ≡ times k (old ∷ []) = ap first h in omega (arith, s)
  where
    first : Option Value → ℕ
    first None = 0
    first (Some v) = times k (v ∷ [])
times_set k (y ∷ ys) (suc i) x old h = let s = times_set k ys i x old h in omega (arith, s)

-- a field takes a reference from the hand, and what stood there is in hand
pub counted_stored : (t : Table) (roots hand : List Value) (cs : List (Option ℕ)) (o : Value) (i : ℕ) (x old : Value) → IsCounted t roots (x ∷ hand) cs
    → is_live t o ≡ true → slice_get (object_of t o).fields i ≡ Some old → IsCounted (with_stored t o i x) roots (old ∷ hand) cs
unfolding with_stored
counted_stored t roots hand cs o i x old h live there = by_name (named t o live)
  where
    by_name : ((n : ℕ) × (p : Object) × (o ≡ Ref n) × (entry t n ≡ Some p) × (object_of t o ≡ p)) → IsCounted (with_stored t o i x) roots (old ∷ hand) cs
    by_name (n, p, is, at, object) =
        let q : Object = object_of t (Ref n) in
        let same : q ≡ p = ap (object_of t) (sym is) ∙ object in
        let at' : entry t n ≡ Some q = at ∙ ap (λ y. Some y) (sym same) in
        let there' : slice_get q.fields i ≡ Some old = ap (λ y. slice_get (object_of t y).fields i) (sym is) ∙ there in
        subst (λ y. IsCounted (with_stored t y i x) roots (old ∷ hand) cs) (sym is)
        (counted_alike t (changed t n (with_field q i x)) roots roots (x ∷ hand) (old ∷ hand) cs h (λ k. live_changed t n k (with_field q i x))
        (λ k. let a = uses_changed k t n (with_field q i x) q at' in let b = times_set k q.fields i x old there' in omega (arith, a, b)))

-- words and bytes are no references
pub counted_unit : (t : Table) (roots hand : List Value) (cs : List (Option ℕ)) (o : Value) (i u : ℕ) → IsCounted t roots hand cs → is_live t o ≡ true → IsCounted (with_unit t o i u) roots hand cs
unfolding with_unit
counted_unit t roots hand cs o i u h live = by_name (named t o live)
  where
    by_name : ((n : ℕ) × (p : Object) × (o ≡ Ref n) × (entry t n ≡ Some p) × (object_of t o ≡ p)) → IsCounted (with_unit t o i u) roots hand cs
    by_name (n, p, is, at, object) =
        let q : Object = object_of t (Ref n) in
        let same : q ≡ p = ap (object_of t) (sym is) ∙ object in
        let at' : entry t n ≡ Some q = at ∙ ap (λ y. Some y) (sym same) in
        subst (λ y. IsCounted (with_unit t y i u) roots hand cs) (sym is)
        (counted_alike t (changed t n (object_with_unit q i u)) roots roots hand hand cs h (λ k. live_changed t n k (object_with_unit q i u))
        (λ k. let a = uses_changed k t n (object_with_unit q i u) q at' in omega (arith, a)))

-- two pointers exchange what they name: no count changes
pub counted_exchanged : (t : Table) (roots hand : List Value) (cs : List (Option ℕ)) (x y : Value) → IsCounted t roots hand cs → is_live t x ≡ true → is_live t y ≡ true → IsCounted (with_exchanged t x y) roots hand cs
unfolding with_exchanged
counted_exchanged t roots hand cs x y h live live' = by_names (named t x live) (named t y live')
  where
    by_names : ((n : ℕ) × (p : Object) × (x ≡ Ref n) × (entry t n ≡ Some p) × (object_of t x ≡ p)) → ((n : ℕ) × (p : Object) × (y ≡ Ref n) × (entry t n ≡ Some p) × (object_of t y ≡ p)) → IsCounted (with_exchanged t x y) roots hand cs
    by_names (a, o, is, at, object) (b, p, is', at', object') =
        let u = changed t a p in
        let there : entry u b ≡ Some p = elim (number_cases b a) [
          | inl e ↦ ap (entry u) e ∙ changed-some t a p o at
          | inr ne ↦ changed-other t a b p ne ∙ at'
        ] in
        subst (λ v. IsCounted (with_exchanged t v y) roots hand cs) (sym is) (subst (λ v. IsCounted (with_exchanged t (Ref a) v) roots hand cs) (sym is')
        (subst (λ e. IsCounted (exchanged_objects t a b e (entry t b)) roots hand cs) (sym at) (subst (λ e. IsCounted (exchanged_objects t a b (Some o) e) roots hand cs) (sym at')
        (counted_alike t (changed u b o) roots roots hand hand cs h (λ k. live_changed u b k o ∙ live_changed t a k p)
        (λ k. let c = uses_changed k t a p o at in let d = uses_changed k u b o p there in omega (arith, c, d))))))

uses_filled : (n : ℕ) (t : Table) (o : Object) → uses n (filled_first t o) ≡ uses n t + object_uses n (Some o)
uses_filled n [] o = omega arith
uses_filled n (None ∷ t) o = omega arith
uses_filled n (Some a ∷ t) o = let s = uses_filled n t o in omega (arith, s)

pub uses_placed : (n : ℕ) (t : Table) (o : Object) → uses n (placed t o) ≡ uses n t + object_uses n (Some o)
uses_placed n [] o = omega arith
uses_placed n (e ∷ t) o = let s = uses_filled n t o in omega (arith, s)

-- a new object takes its references from the hand, and nothing refers to it
pub counted_placed : (t : Table) (roots hand : List Value) (cs : List (Option ℕ)) (o : Object) → IsCounted t roots hand cs → ((k : ℕ) → times k hand ≡ object_uses k (Some o))
    → first_free t < length cs → entry t (first_free t) ≡ None → IsCounted (placed t o) roots [] (set cs (first_free t) (Some 0))
counted_placed t roots hand cs o h same within free = record { tallied = λ j. tallied j (number_cases j n); closed = λ j dead. closed j dead (number_cases j n) }
  where
    n : ℕ
    n = first_free t

    u : Table
    u = placed t o

    total : (k : ℕ) → references u roots [] k ≡ references t roots hand k
    total k = let a = uses_placed k t o in let b = same k in omega (arith, a, b)

    tallied : (j : ℕ) → (j ≡ n) ⊎ (j ≢ n) → count_at (set cs n (Some 0)) j ≡ cond (is_some (entry u j)) (Some (references u roots [] j)) None
    tallied j (inl e) =
        subst (λ y. count_at (set cs n (Some 0)) y ≡ cond (is_some (entry u y)) (Some (references u roots [] y)) None) (sym e)
        (get_or-set_same cs n (Some 0) None within ∙ ap (λ m. Some m) (sym (total n ∙ h.closed n (ap is_some free))) ∙ ap (λ x. cond (is_some x) (Some (references u roots [] n)) None) (sym (placed-first t o)))
    tallied j (inr ne) =
        get_or-set_other cs n j (Some 0) None ne ∙ h.tallied j ∙ ap (λ m. cond (is_some (entry t j)) (Some m) None) (sym (total j))
        ∙ ap (λ x. cond (is_some x) (Some (references u roots [] j)) None) (sym (placed-other t j o ne))

    closed : (j : ℕ) → is_some (entry u j) ≡ false → (j ≡ n) ⊎ (j ≢ n) → references u roots [] j ≡ 0
    closed j dead (inl e) = let z : is_some (entry u n) ≡ false = ap (λ y. is_some (entry u y)) (sym e) ∙ dead in let w = placed-first t o in cc
    closed j dead (inr ne) = total j ∙ h.closed j (ap is_some (sym (placed-other t j o ne)) ∙ dead)

pub times_append : (k : ℕ) (xs ys : List Value) → times k (xs ++ ys) ≡ times k xs + times k ys
times_append k [] ys = omega arith
times_append k (x ∷ xs) ys = let s = times_append k xs ys in omega (arith, s)

-- a new object refers to its class, and as often to nil as it has such fields
pub uses_fresh : (k class : ℕ) (kd : Kind) (size literals : ℕ) → object_uses k (Some (fresh class kd size literals)) ≡ times k (replicate (nils_of kd size literals) nil ++ (Ref class ∷ []))
uses_fresh k class kind.Pointers size literals = let a = times_append k (replicate size nil) (Ref class ∷ []) in omega (arith, a)
uses_fresh k class kind.Words size literals = omega arith
uses_fresh k class kind.Bytes size literals = omega arith
uses_fresh k class kind.Method size literals = let a = times_append k (replicate literals nil) (Ref class ∷ []) in omega (arith, a)

pub uses_set : (n : ℕ) (t : Table) (k : ℕ) → uses n (slice_set t k None) + object_uses n (entry t k) ≡ uses n t
uses_set n [] k = omega arith
uses_set n (e ∷ t) zero = omega arith
uses_set n (e ∷ t) (suc k) = let s = uses_set n t k in omega (arith, s)

pub entry-set_same : (t : Table) (n : ℕ) (x : Option Object) → n < length t → entry (set t n x) n ≡ x
entry-set_same [] n x l = absurd (omega (arith, l))
entry-set_same (e ∷ t) zero x l = refl
entry-set_same (e ∷ t) (suc n) x l = entry-set_same t n x (omega (arith, l))

pub entry-set_other : (t : Table) (n k : ℕ) (x : Option Object) → k ≢ n → entry (set t n x) k ≡ entry t k
entry-set_other [] n k x d = refl
entry-set_other (e ∷ t) zero zero x d = absurd (d refl)
entry-set_other (e ∷ t) zero (suc k) x d = refl
entry-set_other (e ∷ t) (suc n) zero x d = refl
entry-set_other (e ∷ t) (suc n) (suc k) x d = entry-set_other t n k x (λ q. d (ap (λ m. suc m) q))
