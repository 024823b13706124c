-- The list of the places whose count is 0, where one count changes.
use Rattle.std.proofs.Common.{◌≡◌, ◌≢◌, ℕ, zero, suc, ◌<◌, ◌≤◌, Bool, true, false, cond, List, [], ◌∷◌, length, get_or, set, replicate, refl, sym, ap, ◌∙◌, is_some, arith}
use Rattle.std.specs.Prelude.{◌==◌, Option, Some, None, unwrap_or}
use mathlib.Core.Bool.{Bool-set}
use Rattle.std.proofs.Math.Logic.{∥∥₁_elim, ∥∥₁_map}
use Rattle.std.proofs.lemmas.List.{get_or-set_same, get_or-set_other}
use Rattle.st_heap.specs.declared.store.BlockStore.{BlockStore}
use Rattle.st_heap.specs.inside.Links.{next_of, before_of}
use Rattle.st_counted.specs.inside.Links.{times, IsLinked, Listed, Holds}
use Rattle.st_counted.specs.inside.Counts.{count_at, number_at, is_counted, is_zero, is_unused}
use Rattle.st_counted.proofs.Linked.{same_test, other_test, test_other, begins}

-- the same places pass
pub holds_alike : (s : BlockStore) (first : ℕ) (p q : ℕ → Bool) → Holds s first p → ((o : ℕ) → q o ≡ p o) → Holds s first q
holds_alike s first p q h same = ∥∥₁_map h (λ h. record { list = h.list; chain = h.chain; exact = λ o. h.exact o ∙ ap (λ t. cond t 1 0) (sym (same o)) })

pub counted_within : (cs : List (Option ℕ)) (k : ℕ) → is_counted cs k ≡ true → k < length cs
counted_within [] k h = cc
counted_within (x ∷ xs) zero h = omega arith
counted_within (x ∷ xs) (suc k) h = let s = counted_within xs k h in omega (arith, s)

pub zero_counted : (x : Option ℕ) → is_zero x ≡ true → is_some x ≡ true
zero_counted None h = cc
zero_counted (Some n) h = refl

pub number_zero : (x : Option ℕ) → is_some x ≡ true → is_zero x ≡ (unwrap_or x 0 == 0)
number_zero None h = cc
number_zero (Some n) h = refl

pub absent_zero : (x : Option ℕ) → is_some x ≡ false → is_zero x ≡ false
absent_zero None h = refl
absent_zero (Some n) h = cc

-- which counts are 0 where one changes
pub unused_set : (cs : List (Option ℕ)) (k o : ℕ) (x : Option ℕ) (b : Bool) → k < length cs → is_zero x ≡ b → is_unused (set cs k x) o ≡ cond (k == o) b (is_unused cs o)
unused_set cs k o x b within e = by_case (k == o) refl
  where
    by_case : (t : Bool) → (k == o) ≡ t → is_unused (set cs k x) o ≡ cond (k == o) b (is_unused cs o)
    by_case true q =
        ap (λ y. is_zero (get_or (set cs k x) y None)) (sym (same_test k o q)) ∙ ap is_zero (get_or-set_same cs k x None within) ∙ e ∙ ap (λ t. cond t b (is_unused cs o)) (sym q)
    by_case false q =
        ap is_zero (get_or-set_other cs k o x None (λ w. other_test k o q (sym w))) ∙ ap (λ t. cond t b (is_unused cs o)) (sym q)

-- the list was changed with the count
pub relisted : (s : BlockStore) (first : ℕ) (cs : List (Option ℕ)) (k : ℕ) (x : Option ℕ) (b : Bool) → k < length cs → is_zero x ≡ b → Holds s first (λ o. cond (k == o) b (is_unused cs o)) → Holds s first (is_unused (set cs k x))
relisted s first cs k x b within e h = holds_alike s first _ _ h (λ o. unused_set cs k o x b within e)

-- the list stays where the count is 0 as before, or is not as before
pub listed_still : (s : BlockStore) (first : ℕ) (cs : List (Option ℕ)) (k : ℕ) (x : Option ℕ) (b : Bool) → k < length cs → is_zero x ≡ b → is_unused cs k ≡ b → Holds s first (is_unused cs) → Holds s first (is_unused (set cs k x))
listed_still s first cs k x b within e was h = relisted s first cs k x b within e (holds_alike s first _ _ h (λ o. by_case o (k == o) refl))
  where
    by_case : (o : ℕ) (t : Bool) → (k == o) ≡ t → cond (k == o) b (is_unused cs o) ≡ is_unused cs o
    by_case o true q = ap (λ t. cond t b (is_unused cs o)) q ∙ sym was ∙ ap (is_unused cs) (same_test k o q)
    by_case o false q = ap (λ t. cond t b (is_unused cs o)) q

pub not_here : (cs : List (Option ℕ)) (k : ℕ) → count_at cs 0 ≡ None → is_counted cs k ≡ true → k ≢ 0
not_here cs k none h e = let t : is_counted cs k ≡ false = ap (λ y. is_some (get_or cs y None)) e ∙ ap is_some none in cc

pub none_still : (cs : List (Option ℕ)) (k : ℕ) (x : Option ℕ) → count_at cs 0 ≡ None → k ≢ 0 → count_at (set cs k x) 0 ≡ None
none_still cs k x none ne = get_or-set_other cs k 0 x None (λ e. ne (sym e)) ∙ none

-- the first of the list passes
first_of : (s : BlockStore) (first : ℕ) (p : ℕ → Bool) → Listed s first p → first ≢ 0 → p first ≡ true
first_of s first p h ne = by_case (p first) (begins _ _ _ _ first h.list h.chain ne) (h.exact first)
  where
    by_case : (t : Bool) → 1 ≤ times first h.list → times first h.list ≡ cond t 1 0 → t ≡ true
    by_case true there e = refl
    by_case false there e = absurd (omega (arith, there, e))

pub first_passes : (s : BlockStore) (first : ℕ) (p : ℕ → Bool) → Holds s first p → first ≢ 0 → p first ≡ true
first_passes s first p h ne = ∥∥₁_elim h (hlevel (Bool-set)) (λ h. first_of s first p h ne)

-- where the list has no first, nothing passes
none_of : (s : BlockStore) (first : ℕ) (p : ℕ → Bool) (k : ℕ) → Listed s first p → first ≡ 0 → p k ≡ false
none_of s first p k h e = by_list h.list h.chain (p k) (h.exact k)
  where
    by_list : (zs : List ℕ) → IsLinked 32768 (next_of s) (before_of s) 0 first zs → (t : Bool) → times k zs ≡ cond t 1 0 → t ≡ false
    by_list [] chain true q = absurd (omega (arith, q))
    by_list [] chain false q = refl
    by_list (y ∷ ys) chain t q = absurd (chain.1 (sym chain.0 ∙ e))

pub none_passes : (s : BlockStore) (first : ℕ) (p : ℕ → Bool) (k : ℕ) → Holds s first p → first ≡ 0 → p k ≡ false
none_passes s first p k h e = ∥∥₁_elim h (hlevel (Bool-set)) (λ h. none_of s first p k h e)

pub nothing_counted : (n k : ℕ) → count_at (replicate n None) k ≡ None
nothing_counted zero k = refl
nothing_counted (suc n) zero = refl
nothing_counted (suc n) (suc k) = nothing_counted n k

-- an empty list holds what never passes
pub holds_nothing : (s : BlockStore) (first : ℕ) (p : ℕ → Bool) → first ≡ 0 → ((k : ℕ) → p k ≡ false) → Listed s first p
holds_nothing s first p e none = record { list = []; chain = e; exact = λ k. ap (λ t. cond t 1 0) (sym (none k)) }

pub test_of : (a b : ℕ) → a ≡ b → (a == b) ≡ true
test_of a b e = grind arith

-- a place that is counted is unused where its number is 0, and used where it is another
pub zero_unused : (cs : List (Option ℕ)) (k n : ℕ) → is_counted cs k ≡ true → n ≡ number_at cs k → n ≡ 0 → is_unused cs k ≡ true
zero_unused cs k n counted is none = number_zero (count_at cs k) counted ∙ test_of (number_at cs k) 0 (sym is ∙ none)

pub some_used : (cs : List (Option ℕ)) (k : ℕ) → is_counted cs k ≡ true → number_at cs k ≢ 0 → is_unused cs k ≡ false
some_used cs k counted some = number_zero (count_at cs k) counted ∙ test_other (number_at cs k) 0 some

-- so it is used where its number can be lowered
pub lowered_used : (cs : List (Option ℕ)) (k by : ℕ) → is_counted cs k ≡ true → 0 < by → by ≤ number_at cs k → is_unused cs k ≡ false
lowered_used cs k by counted some most = some_used cs k counted (λ q. absurd (omega (arith, q, some, most)))
