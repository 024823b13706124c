-- The places below a number whose count is 0, as they come into the list one after the other.
use Rattle.std.proofs.Common.{◌≡◌, ◌≢◌, ℕ, ◌+◌, ◌<◌, ◌≤◌, Bool, true, false, cond, List, Option, length, refl, sym, ap, ◌∙◌, is_some, inl, inr, arith}
use Rattle.std.specs.Prelude.{◌==◌, ◌&&◌, nat_lt}
use Rattle.std.proofs.lemmas.Bool.{cases_lt, and_parts, and_right}
use Rattle.std.proofs.lemmas.Bool.Decides.{nat_tests}
use Rattle.st_model.specs.Table.{Table, entry}
use Rattle.st_heap.specs.declared.store.BlockStore.{BlockStore}
use Rattle.st_heap.specs.declared.objects.HeapObjects.{HeapObjects}
use Rattle.st_heap.specs.inside.Tables.{objects_of}
use Rattle.st_counted.specs.inside.Counts.{is_unused}
use Rattle.st_counted.specs.inside.Links.{Holds, IsEnd, with_member}
use Rattle.st_counted.specs.inside.References.{IsTallied}
use Rattle.st_counted.proofs.Linked.{same_test, other_test}
use Rattle.st_counted.proofs.ZeroList.{holds_alike, first_passes}
use Rattle.st_counted.proofs.Dropping.{no_reference, unused_within}

abbrev pub unused_below : List (Option ℕ) → ℕ → ℕ → Bool
unused_below cs n o = nat_lt o n && is_unused cs o

lt_true : (a b : ℕ) → a < b → nat_lt a b ≡ true
lt_true a b h = grind (arith, nat_tests)

lt_false : (a b : ℕ) → b ≤ a → nat_lt a b ≡ false
lt_false a b h = grind (arith, nat_tests)

step_other : (o k : ℕ) → k ≢ o → nat_lt o (k + 1) ≡ nat_lt o k
step_other o k ne = elim (cases_lt o k) [
  | inl l ↦ lt_true o (k + 1) (omega (arith, l)) ∙ sym (lt_true o k l)
  | inr g ↦ let apart : o ≢ k = λ e. ne (sym e) in lt_false o (k + 1) (omega (arith, g, apart)) ∙ sym (lt_false o k g)
]

pub below_none : (cs : List (Option ℕ)) (o : ℕ) → unused_below cs 0 o ≡ false
below_none cs o = ap (λ b. b && is_unused cs o) (lt_false o 0 (omega arith))

pub below_out : (cs : List (Option ℕ)) (k : ℕ) → unused_below cs k k ≡ false
below_out cs k = ap (λ b. b && is_unused cs k) (lt_false k k (omega arith))

below_used : (cs : List (Option ℕ)) (k o : ℕ) → is_unused cs k ≡ false → unused_below cs (k + 1) o ≡ unused_below cs k o
below_used cs k o used = by_case (k == o) refl
  where
    by_case : (t : Bool) → (k == o) ≡ t → unused_below cs (k + 1) o ≡ unused_below cs k o
    by_case true q =
        let out : is_unused cs o ≡ false = ap (is_unused cs) (sym (same_test k o q)) ∙ used in
        and_right (nat_lt o (k + 1)) (is_unused cs o) out ∙ sym (and_right (nat_lt o k) (is_unused cs o) out)
    by_case false q = ap (λ b. b && is_unused cs o) (step_other o k (other_test k o q))

below_more : (cs : List (Option ℕ)) (k o : ℕ) → is_unused cs k ≡ true → unused_below cs (k + 1) o ≡ with_member k (unused_below cs k) o
below_more cs k o unused = by_case (k == o) refl
  where
    by_case : (t : Bool) → (k == o) ≡ t → unused_below cs (k + 1) o ≡ cond (k == o) true (unused_below cs k o)
    by_case true q =
        let at = same_test k o q in
        ap (λ b. b && is_unused cs o) (lt_true o (k + 1) (omega (arith, at))) ∙ ap (is_unused cs) (sym at) ∙ unused ∙ ap (λ t. cond t true (unused_below cs k o)) (sym q)
    by_case false q = ap (λ b. b && is_unused cs o) (step_other o k (other_test k o q)) ∙ ap (λ t. cond t true (unused_below cs k o)) (sym q)

below_all : (cs : List (Option ℕ)) (n o : ℕ) → length cs ≡ n → is_unused cs o ≡ unused_below cs n o
below_all cs n o long = elim (cases_lt o n) [
  | inl l ↦ sym (ap (λ b. b && is_unused cs o) (lt_true o n l))
  | inr g ↦ by_case (is_unused cs o) refl g ∙ sym (ap (λ b. b && is_unused cs o) (lt_false o n g))
]
  where
    by_case : (t : Bool) → is_unused cs o ≡ t → n ≤ o → is_unused cs o ≡ false
    by_case true e g = let l = unused_within cs o e in absurd (omega (arith, l, g, long))
    by_case false e g = e

-- the list goes on
pub listed_used : (s : BlockStore) (first : ℕ) (cs : List (Option ℕ)) (k : ℕ) → is_unused cs k ≡ false → Holds s first (unused_below cs k) → Holds s first (unused_below cs (k + 1))
listed_used s first cs k used h = holds_alike s first (unused_below cs k) (unused_below cs (k + 1)) h (λ o. below_used cs k o used)

pub listed_more : (s : BlockStore) (first : ℕ) (cs : List (Option ℕ)) (k : ℕ) → is_unused cs k ≡ true → Holds s first (with_member k (unused_below cs k)) → Holds s first (unused_below cs (k + 1))
listed_more s first cs k unused h = holds_alike s first (with_member k (unused_below cs k)) (unused_below cs (k + 1)) h (λ o. below_more cs k o unused)

pub listed_all : (s : BlockStore) (first : ℕ) (cs : List (Option ℕ)) (n : ℕ) → length cs ≡ n → Holds s first (unused_below cs n) → Holds s first (is_unused cs)
listed_all s first cs n long h = holds_alike s first (unused_below cs n) (is_unused cs) h (λ o. below_all cs n o long)

-- what is first in it stands somewhere
pub below_end : (o : HeapObjects) (t : Table) (f : ℕ → ℕ) (cs : List (Option ℕ)) (first k : ℕ) → objects_of o ≡ t → IsTallied t f cs → Holds o.store first (unused_below cs k) → IsEnd o first
below_end o t f cs first k is tally h = λ ne.
    ap (λ (u : Table). is_some (entry u first)) is ∙ (no_reference t f cs first tally (and_parts (nat_lt first k) (is_unused cs first) (first_passes o.store first (unused_below cs k) h ne)).1).0
