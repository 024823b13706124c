-- What a selector that is added does to searches in a dictionary: it is found where it stands, and each other one as before.
use Rattle.std.proofs.Common.{◌≡◌, ◌≢◌, ℕ, ◌+◌, ◌<◌, ◌≤◌, zero, suc, List, length, Bool, true, false, refl, sym, ap, ◌∙◌, arith, ◌⊎◌, inl, inr, length-set}
use Rattle.std.specs.Prelude.{◌-◌, slice_set, bit_and}
use Rattle.std.proofs.lemmas.Bool.Decides.{nat_tests}
use Rattle.std.proofs.lemmas.List.{get_or-set_same, get_or-set_other, get_or_past}
use Rattle.st_model.specs.Values.{Value, Small, Ref}
use Rattle.st_model.specs.Objects.{nil}
use Rattle.st_model.specs.Steps.{same_value}
use Rattle.st_model.specs.Table.{Table}
use Rattle.st_install.specs.Dictionaries.{Ending, Holds, Vacant, Nowhere}
use Rattle.st_install.proofs.GoesSeeking.{at_place, ends_with, ending_among, ending_from, ending_for, half_of, start_within}
use Rattle.st_model.proofs.SameValues.{value_same}

-- VALUES

pub same_itself : (v : Value) → same_value v v ≡ true
same_itself (Small a) = grind (arith, nat_tests)
same_itself (Ref a) = grind (arith, nat_tests)

pub other_false : (v w : Value) → v ≢ w → same_value v w ≡ false
other_false v w d = by_case (same_value v w) refl
  where
    by_case : (b : Bool) → same_value v w ≡ b → same_value v w ≡ false
    by_case true e = absurd (d (value_same v w e))
    by_case false e = e

-- ENDINGS

pub same_places : (i k : ℕ) → (i ≡ k) ⊎ (k ≢ i)
same_places i k = grind arith

no_vacant : (k j : ℕ) → Vacant k ≡ Holds j → ⊥
no_vacant k j e = cc

no_holds : (k j : ℕ) → Holds k ≡ Vacant j → ⊥
no_holds k j e = cc

same_vacant : (k j : ℕ) → Vacant k ≡ Vacant j → k ≡ j
same_vacant k j e = cc

pub same_holds : (k j : ℕ) → Holds k ≡ Holds j → k ≡ j
same_holds k j e = cc

-- one place, at which nothing has changed
step_holds : (k j : ℕ) (a b : Bool) (e f : Ending) → ends_with k a b e ≡ Holds j → (e ≡ Holds j → f ≡ Holds j) → ends_with k a b f ≡ Holds j
step_holds k j true b e f h g = h
step_holds k j false true e f h g = h
step_holds k j false false e f h g = g h

-- a search that holds does so whatever would come behind
pub holds_before : (fs : List Value) (x : Value) (k left j : ℕ) (e f : Ending) → ending_among fs x k left e ≡ Holds j → (e ≡ Holds j → f ≡ Holds j) → ending_among fs x k left f ≡ Holds j
holds_before fs x k zero j e f h g = g h
holds_before fs x k (suc left) j e f h g = step_holds k j _ _ _ _ h (λ q. holds_before fs x (suc k) left j e f q g)

pub in_two : (fs : List Value) (x : Value) (k a b : ℕ) (e : Ending) → ending_among fs x k (a + b) e ≡ ending_among fs x k a (ending_among fs x (k + a) b e)
in_two fs x k zero b e = let q : 0 + b ≡ b = omega arith in let r : k ≡ k + 0 = omega arith in ap (λ n. ending_among fs x k n e) q ∙ ap (λ n. ending_among fs x n b e) r
in_two fs x k (suc a) b e =
    let q : suc a + b ≡ suc (a + b) = omega arith in
    let r : suc k + a ≡ k + suc a = omega arith in
    ap (λ n. ending_among fs x k n e) q
    ∙ (ap (ends_with k (same_value (at_place fs k) x) (same_value (at_place fs k) nil)) (in_two fs x (suc k) a b e)
    ∙ ap (λ n. ending_among fs x k (suc a) (ending_among fs x n b e)) r)

-- where the machine's search ends: it goes through all places once more
abbrev pub look_from : List Value → Value → ℕ → ℕ → Ending
look_from fs x places start = ending_among fs x start (places - start) (ending_among fs x 0 places Nowhere)

abbrev pub look_for : Table → List Value → Value → Ending
look_for t fs x = look_from fs x (length fs - 2) (bit_and (half_of t x) (length fs - 2 - 1))

pub look_holds : (t : Table) (fs : List Value) (x : Value) (j : ℕ) → ending_for t fs x x ≡ Holds j → look_for t fs x ≡ Holds j
look_holds t fs x j h =
    let n = length fs - 2 in
    let start = bit_and (half_of t x) (n - 1) in
    let l : start ≤ n = start_within (half_of t x) n in
    holds_before fs x start (n - start) j _ _ h
    (λ q. let s : start + (n - start) ≡ n = omega (arith, l) in
    ap (λ m. ending_among fs x 0 m Nowhere) (sym s) ∙ (in_two fs x 0 start (n - start) Nowhere ∙ holds_before fs x 0 start j _ _ q (λ r. nothing r)))
  where
    nothing : {e : Ending} → Nowhere ≡ Holds j → e ≡ Holds j
    nothing r = cc

-- it is at no place
abbrev pub IsAbsent : List Value → Value → Type 0
IsAbsent fs x = (j : ℕ) → same_value (at_place fs j) x ≡ false

abbrev pub IsNotHeld : Ending → Type 0
IsNotHeld e = (j : ℕ) → e ≢ Holds j

step_not : (k : ℕ) (a b : Bool) (e : Ending) → a ≡ false → IsNotHeld e → IsNotHeld (ends_with k a b e)
step_not k true b e q h = cc
step_not k false true e q h = λ j. no_vacant k j
step_not k false false e q h = h

absent_among : (fs : List Value) (x : Value) (k left : ℕ) (e : Ending) → IsAbsent fs x → IsNotHeld e → IsNotHeld (ending_among fs x k left e)
absent_among fs x k zero e a h = h
absent_among fs x k (suc left) e a h = step_not k _ _ _ (a k) (absent_among fs x (suc k) left e a h)

nowhere_not : IsNotHeld Nowhere
nowhere_not j q = no_where q
  where
    no_where : {j : ℕ} → Nowhere ≡ Holds j → ⊥
    no_where q = cc

pub look_absent : (t : Table) (fs : List Value) (x : Value) → IsAbsent fs x → IsNotHeld (look_for t fs x)
look_absent t fs x a = absent_among fs x _ _ _ a (absent_among fs x 0 _ _ a nowhere_not)

-- ADDING

module _ (fs : List Value) (i : ℕ) (x : Value) (l : 2 + i < length fs) where
  pub at_other : (k : ℕ) → k ≢ i → at_place (slice_set fs (2 + i) x) k ≡ at_place fs k
  at_other k d = get_or-set_other fs (2 + i) (2 + k) x nil (λ q. d (omega (arith, q)))

  pub at_it : (k : ℕ) → i ≡ k → at_place (slice_set fs (2 + i) x) k ≡ x
  at_it k q = ap (λ n. at_place (slice_set fs (2 + i) x) n) (sym q) ∙ get_or-set_same fs (2 + i) x nil l

  stops : (k j : ℕ) (p r : Bool) (y : Ending) → ends_with k p r y ≡ Holds j → p ≡ false → r ≡ true → ⊥
  stops k j true r y m n o = cc
  stops k j false true y m n o = no_vacant k j m
  stops k j false false y m n o = cc

  not_here : (v : Value) (k j : ℕ) (e : Ending) → at_place fs i ≡ nil → v ≢ nil → i ≡ k → ends_with k (same_value (at_place fs k) v) (same_value (at_place fs k) nil) e ≡ Holds j → ⊥
  not_here v k j e z d q h =
      let a : at_place fs k ≡ nil = ap (λ n. at_place fs n) (sym q) ∙ z in
      stops k j _ _ e h (ap (λ y. same_value y v) a ∙ other_false nil v (λ r. d (sym r))) (ap (λ y. same_value y nil) a)

  -- what is held elsewhere is held: the search for it has met no vacant place
  keeps_among : (v : Value) (k left j : ℕ) (e f : Ending) → at_place fs i ≡ nil → v ≢ nil → ending_among fs v k left e ≡ Holds j → (e ≡ Holds j → f ≡ Holds j)
      → ending_among (slice_set fs (2 + i) x) v k left f ≡ Holds j
  keeps_among v k zero j e f z d h g = g h
  keeps_among v k (suc left) j e f z d h g = elim (same_places i k) [
    | inl q ↦ absurd (not_here v k j _ z d q h)
    | inr q ↦ rw (at_other k q) (step_holds k j _ _ _ _ h (λ r. keeps_among v (suc k) left j e f z d r g))
  ]

  found_here : (k : ℕ) (b : Bool) (e : Ending) → i ≡ k → ends_with k (same_value (at_place (slice_set fs (2 + i) x) k) x) b e ≡ Holds i
  found_here k b e q = rw (at_it k q, same_itself x) (ap (λ n. Holds n) (sym q))

  step_vacant : (k : ℕ) (a b : Bool) (e f : Ending) → k ≢ i → ends_with k a b e ≡ Vacant i → (e ≡ Vacant i → f ≡ Holds i) → ends_with k a b f ≡ Holds i
  step_vacant k true b e f d h g = absurd (no_holds k i h)
  step_vacant k false true e f d h g = absurd (d (same_vacant k i h))
  step_vacant k false false e f d h g = g h

  -- what is added where its search has ended is held
  adds_among : (k left : ℕ) (e f : Ending) → ending_among fs x k left e ≡ Vacant i → (e ≡ Vacant i → f ≡ Holds i) → ending_among (slice_set fs (2 + i) x) x k left f ≡ Holds i
  adds_among k zero e f h g = g h
  adds_among k (suc left) e f h g = elim (same_places i k) [
    | inl q ↦ found_here k _ _ q
    | inr q ↦ rw (at_other k q) (step_vacant k _ _ _ _ q h (λ r. adds_among (suc k) left e f r g))
  ]

  step_nil : (k : ℕ) (a b : Bool) (e f : Ending) → k ≢ i → a ≡ false → ends_with k b b e ≡ Holds i → (e ≡ Holds i → f ≡ Holds i) → ends_with k a b f ≡ Holds i
  step_nil k true b e f d n h g = cc
  step_nil k false true e f d n h g = absurd (d (same_holds k i h))
  step_nil k false false e f d n h g = g h

  -- also what stood nowhere, and is added at the first vacant place
  moves_among : (k left : ℕ) (e f : Ending) → IsAbsent fs x → ending_among fs nil k left e ≡ Holds i → (e ≡ Holds i → f ≡ Holds i) → ending_among (slice_set fs (2 + i) x) x k left f ≡ Holds i
  moves_among k zero e f a h g = g h
  moves_among k (suc left) e f a h g = elim (same_places i k) [
    | inl q ↦ found_here k _ _ q
    | inr q ↦ rw (at_other k q) (step_nil k _ _ _ _ q (a k) h (λ r. moves_among (suc k) left e f a r g))
  ]

  pub still_absent : (v : Value) → v ≢ x → IsAbsent fs v → IsAbsent (slice_set fs (2 + i) x) v
  still_absent v d a j = elim (same_places i j) [
    | inl q ↦ rw (at_it j q) (other_false x v (λ r. d (sym r)))
    | inr q ↦ rw (at_other j q) (a j)
  ]

-- WHOLE SEARCHES

-- where the search for x ends that starts by a number
abbrev pub ending_by : ℕ → List Value → Value → Ending
ending_by half fs x = ending_from fs x (length fs - 2) (bit_and half (length fs - 2 - 1))

module _ (fs : List Value) (i : ℕ) (x : Value) (l : 2 + i < length fs) (half : ℕ) where
  by_set : (v : Value) → ending_by half (slice_set fs (2 + i) x) v ≡ ending_from (slice_set fs (2 + i) x) v (length fs - 2) (bit_and half (length fs - 2 - 1))
  by_set v = ap (λ n. ending_from (slice_set fs (2 + i) x) v (n - 2) (bit_and half (n - 2 - 1))) (length-set fs (2 + i) x)

  keeps_from : (v : Value) (j n start : ℕ) → at_place fs i ≡ nil → v ≢ nil → ending_from fs v n start ≡ Holds j → ending_from (slice_set fs (2 + i) x) v n start ≡ Holds j
  keeps_from v j n start z d h =
      keeps_among fs i x l v start (n - start) j (ending_among fs v 0 start Nowhere) (ending_among (slice_set fs (2 + i) x) v 0 start Nowhere) z d h
      (λ q. keeps_among fs i x l v 0 start j Nowhere Nowhere z d q (λ r. r))

  pub keeps : (v : Value) (j : ℕ) → at_place fs i ≡ nil → v ≢ nil → ending_by half fs v ≡ Holds j → ending_by half (slice_set fs (2 + i) x) v ≡ Holds j
  keeps v j z d h = by_set v ∙ keeps_from v j (length fs - 2) (bit_and half (length fs - 2 - 1)) z d h

  no_vacancy : Nowhere ≡ Vacant i → Nowhere ≡ Holds i
  no_vacancy q = cc

  adds_from : (n start : ℕ) → ending_from fs x n start ≡ Vacant i → ending_from (slice_set fs (2 + i) x) x n start ≡ Holds i
  adds_from n start h =
      adds_among fs i x l start (n - start) (ending_among fs x 0 start Nowhere) (ending_among (slice_set fs (2 + i) x) x 0 start Nowhere) h
      (λ q. adds_among fs i x l 0 start Nowhere Nowhere q no_vacancy)

  pub adds : ending_by half fs x ≡ Vacant i → ending_by half (slice_set fs (2 + i) x) x ≡ Holds i
  adds h = by_set x ∙ adds_from (length fs - 2) (bit_and half (length fs - 2 - 1)) h

  moves_from : (n start : ℕ) → IsAbsent fs x → ending_from fs nil n start ≡ Holds i → ending_from (slice_set fs (2 + i) x) x n start ≡ Holds i
  moves_from n start a h =
      moves_among fs i x l start (n - start) (ending_among fs nil 0 start Nowhere) (ending_among (slice_set fs (2 + i) x) x 0 start Nowhere) a h
      (λ q. moves_among fs i x l 0 start Nowhere Nowhere a q (λ r. r))

  pub moves : IsAbsent fs x → ending_by half fs nil ≡ Holds i → ending_by half (slice_set fs (2 + i) x) x ≡ Holds i
  moves a h = by_set x ∙ moves_from (length fs - 2) (bit_and half (length fs - 2 - 1)) a h

-- what stands where a search ends so
module _ (fs : List Value) (x y : Value) (ends : ℕ → Ending) (nowhere : (j : ℕ) → Nowhere ≡ ends j → ⊥)
    (step : (k j : ℕ) (e : Ending) → ends_with k (same_value (at_place fs k) x) (same_value (at_place fs k) nil) e ≡ ends j → (e ≡ ends j → at_place fs j ≡ y) → at_place fs j ≡ y) where
  stands_among : (k left j : ℕ) (e : Ending) → ending_among fs x k left e ≡ ends j → (e ≡ ends j → at_place fs j ≡ y) → at_place fs j ≡ y
  stands_among k zero j e h g = g h
  stands_among k (suc left) j e h g = step k j _ h (λ q. stands_among (suc k) left j e q g)

  stands_from : (n start j : ℕ) → ending_from fs x n start ≡ ends j → at_place fs j ≡ y
  stands_from n start j h = stands_among start (n - start) j (ending_among fs x 0 start Nowhere) h (λ q. stands_among 0 start j Nowhere q (λ r. absurd (nowhere j r)))

  stands : (half j : ℕ) → ending_by half fs x ≡ ends j → at_place fs j ≡ y
  stands half j h = stands_from (length fs - 2) (bit_and half (length fs - 2 - 1)) j h

module _ (fs : List Value) (x : Value) where
  step_at : (k j : ℕ) (a b : Bool) (e : Ending) → same_value (at_place fs k) x ≡ a → ends_with k a b e ≡ Holds j → (e ≡ Holds j → at_place fs j ≡ x) → at_place fs j ≡ x
  step_at k j true b e q h g = ap (λ n. at_place fs n) (sym (same_holds k j h)) ∙ value_same (at_place fs k) x q
  step_at k j false true e q h g = absurd (no_vacant k j h)
  step_at k j false false e q h g = g h

  pub held : (half j : ℕ) → ending_by half fs x ≡ Holds j → at_place fs j ≡ x
  held = stands fs x x (λ j. Holds j) (λ j r. cc) (λ k j e h g. step_at k j _ _ e refl h g)

  step_empty : (k j : ℕ) (a b : Bool) (e : Ending) → same_value (at_place fs k) nil ≡ b → ends_with k a b e ≡ Vacant j → (e ≡ Vacant j → at_place fs j ≡ nil) → at_place fs j ≡ nil
  step_empty k j true b e q h g = absurd (no_holds k j h)
  step_empty k j false true e q h g = ap (λ n. at_place fs n) (sym (same_vacant k j h)) ∙ value_same (at_place fs k) nil q
  step_empty k j false false e q h g = g h

  pub empty : (half j : ℕ) → ending_by half fs x ≡ Vacant j → at_place fs j ≡ nil
  empty = stands fs x nil (λ j. Vacant j) (λ j r. cc) (λ k j e h g. step_empty k j _ _ e refl h g)

-- what differs in no place is searched alike
among_same : (fs gs : List Value) (x : Value) (k left : ℕ) (e : Ending) → ((j : ℕ) → at_place gs j ≡ at_place fs j) → ending_among gs x k left e ≡ ending_among fs x k left e
among_same fs gs x k zero e h = refl
among_same fs gs x k (suc left) e h = rw (h k) (ap (ends_with k (same_value (at_place fs k) x) (same_value (at_place fs k) nil)) (among_same fs gs x (suc k) left e h))

from_same : (fs gs : List Value) (x : Value) (n start : ℕ) → ((j : ℕ) → at_place gs j ≡ at_place fs j) → ending_from gs x n start ≡ ending_from fs x n start
from_same fs gs x n start h =
    among_same fs gs x start (n - start) (ending_among gs x 0 start Nowhere) h ∙ ap (ending_among fs x start (n - start)) (among_same fs gs x 0 start Nowhere h)

pub by_same : (fs gs : List Value) (x : Value) (half : ℕ) → length gs ≡ length fs → ((j : ℕ) → at_place gs j ≡ at_place fs j) → ending_by half gs x ≡ ending_by half fs x
by_same fs gs x half l h =
    ap (λ n. ending_from gs x (n - 2) (bit_and half (n - 2 - 1))) l
    ∙ from_same fs gs x (length fs - 2) (bit_and half (length fs - 2 - 1)) h

-- a value but nil stands at a place, or at none
found_below : (fs : List Value) (x : Value) (n : ℕ) → ((j : ℕ) × (at_place fs j ≡ x)) ⊎ ((j : ℕ) → j < n → same_value (at_place fs j) x ≡ false)
found_below fs x zero = inr (λ j l. absurd (omega (arith, l)))
found_below fs x (suc n) = or_here (same_value (at_place fs n) x) refl (found_below fs x n)
  where
    last_or_before : (j : ℕ) → j < suc n → (n ≡ j) ⊎ (j < n)
    last_or_before j l = grind arith

    or_here : (b : Bool) → same_value (at_place fs n) x ≡ b → ((j : ℕ) × (at_place fs j ≡ x)) ⊎ ((j : ℕ) → j < n → same_value (at_place fs j) x ≡ false)
        → ((j : ℕ) × (at_place fs j ≡ x)) ⊎ ((j : ℕ) → j < suc n → same_value (at_place fs j) x ≡ false)
    or_here b e (inl h) = inl h
    or_here true e (inr h) = inl (n, value_same (at_place fs n) x e)
    or_here false e (inr h) = inr (λ j l. elim (last_or_before j l) [
      | inl q ↦ ap (λ i. same_value (at_place fs i) x) (sym q) ∙ e
      | inr q ↦ h j q
    ])

pub found_or_absent : (fs : List Value) (x : Value) → x ≢ nil → ((j : ℕ) × (at_place fs j ≡ x)) ⊎ IsAbsent fs x
found_or_absent fs x d = elim (found_below fs x (length fs)) [
  | inl h ↦ inl h
  | inr h ↦ inr (λ j. elim (within j) [
    | inl l ↦ h j l
    | inr l ↦ ap (λ v. same_value v x) (get_or_past fs (2 + j) nil (omega (arith, l))) ∙ other_false nil x (λ r. d (sym r))
  ])
]
  where
    within : (j : ℕ) → (j < length fs) ⊎ (length fs ≤ j)
    within j = grind arith

-- a place at which no nil stands is one
pub is_place : (fs : List Value) (j : ℕ) → at_place fs j ≢ nil → 2 + j < length fs
is_place fs j d = elim (within (2 + j)) [
  | inl l ↦ l
  | inr l ↦ absurd (d (get_or_past fs (2 + j) nil l))
]
  where
    within : (j : ℕ) → (j < length fs) ⊎ (length fs ≤ j)
    within j = grind arith
