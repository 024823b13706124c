-- An object to which nothing refers is taken away, one after the other, until there is none (counting in chapter 30).
use Rattle.std.proofs.Common.{◌≡◌, ◌≢◌, ℕ, zero, suc, ◌<◌, ◌≤◌, Bool, true, false, cond, List, [], ◌∷◌, length, set, refl, sym, ap, ◌∙◌, subst, is_some, arith, inl, inr, ◌⊎◌}
use Rattle.std.specs.Prelude.{◌==◌, Option, Some, None, IsTrue, slice_set, unwrap_or}
use Rattle.std.proofs.lemmas.List.{get_or-set_same, get_or-set_other}
use Rattle.st_model.specs.Values.{Value, Small, Ref}
use Rattle.st_model.specs.declared.page.PageObject.{PageObject}
use Rattle.st_model.specs.Objects.{Object, page, place_of, one}
use Rattle.st_model.specs.Table.{Table, table, entry, settled_table, total_used}
use Rattle.st_model.specs.Settled.{IsRefTo, AnyRefTo, Refers, IsRoot, held_root, page_root, is_root, or, names, any_of_page}
use Rattle.st_model.specs.View.{View, view_roots, is_live, SettlesTo}
use Rattle.st_model.proofs.SettledIs.{or_cases, root_is, is_root-of, or_left, or_right}
use Rattle.st_model.proofs.Settling.{DropsTo, left, left_is, settled}
use Rattle.st_model.proofs.Rounds.{KeepsNeeded, moved_roots}
use Rattle.st_counted.specs.inside.Counts.{count_at, is_zero, is_unused}
use Rattle.st_counted.proofs.ZeroList.{counted_within, test_of}
use Rattle.st_counted.specs.inside.References.{times, object_uses, uses, page_values, all_roots, references, IsTallied, IsCounted}
use Rattle.st_counted.proofs.Linked.{same_test}
use Rattle.st_counted.proofs.Tallying.{one_if, tally_number, tally_entered}
use Rattle.st_counted.proofs.Referring.{number_cases, times_append, uses_set, entry-set_same, entry-set_other}

-- what refers is counted

any_named : (n : ℕ) (vs : List Value) → AnyRefTo n vs → 1 ≤ times n vs
any_named n [] r = absurd r
any_named n (v ∷ vs) r = elim r [
  | inl a ↦ let s = one_named v a in omega (arith, s)
  | inr b ↦ let s = any_named n vs b in omega (arith, s)
]
  where
    one_named : (v : Value) → IsRefTo n v → one_if (names v n) ≡ 1
    one_named (Small x) a = absurd a
    one_named (Ref x) a = ap one_if (test_of n x a)

object_named : (n : ℕ) (o : Object) → Refers o n → 1 ≤ object_uses n (Some o)
object_named n o r = elim r [
  | inl a ↦ let s : one_if (n == o.class) ≡ 1 = ap one_if (test_of n o.class a) in omega (arith, s)
  | inr b ↦ let s = any_named n o.fields b in omega (arith, s)
]

pub uses_some : (n : ℕ) (t : Table) (m : ℕ) (o : Object) → entry t m ≡ Some o → Refers o n → 1 ≤ uses n t
uses_some n [] m o h r = cc
uses_some n (e ∷ t) zero o h r = let a = object_named n o r in let b : object_uses n e ≡ object_uses n (Some o) = ap (object_uses n) h in omega (arith, a, b)
uses_some n (e ∷ t) (suc m) o h r = let s = uses_some n t m o h r in omega (arith, s)

page_some : (n : ℕ) (qs : List PageObject) → IsTrue (any_of_page qs (λ q. n == place_of q)) → 1 ≤ times n (page_values qs)
page_some n [] h = cc
page_some n (q ∷ qs) h = elim (or_cases (n == place_of q) (any_of_page qs (λ q. n == place_of q)) h) [
  | inl a ↦ let s : one_if (n == place_of q) ≡ 1 = ap one_if a in omega (arith, s)
  | inr b ↦ let s = page_some n qs b in omega (arith, s)
]

pub root_some : (v : View) (n : ℕ) → IsRoot table v.objects (view_roots v) n → 1 ≤ times n (all_roots v)
unfolding is_root
root_some v n (held_root r) = let a = any_named n (view_roots v) r in let b = times_append n (page_values page) (view_roots v) in omega (arith, a, b)
root_some v n (page_root q e) = let a = page_some n page (is_root-of table v.objects [] n (page_root q e)) in let b = times_append n (page_values page) (view_roots v) in omega (arith, a, b)

-- what is counted refers

some_named : (n : ℕ) (vs : List Value) → 1 ≤ times n vs → AnyRefTo n vs
some_named n [] h = absurd (omega (arith, h))
some_named n (Small x ∷ vs) h = inr (some_named n vs (omega (arith, h)))
some_named n (Ref x ∷ vs) h = by_case (n == x) refl (some_named n vs)
  where
    by_case : (b : Bool) → (n == x) ≡ b → (1 ≤ times n vs → AnyRefTo n vs) → (n ≡ x) ⊎ AnyRefTo n vs
    by_case true q more = inl (same_test n x q)
    by_case false q more = let z : one_if (n == x) ≡ 0 = ap one_if q in inr (more (omega (arith, h, z)))

some_object : (n : ℕ) (o : Object) → 1 ≤ object_uses n (Some o) → Refers o n
some_object n o h = by_case (n == o.class) refl
  where
    by_case : (b : Bool) → (n == o.class) ≡ b → (n ≡ o.class) ⊎ AnyRefTo n o.fields
    by_case true q = inl (same_test n o.class q)
    by_case false q = let z : one_if (n == o.class) ≡ 0 = ap one_if q in inr (some_named n o.fields (omega (arith, h, z)))

pub some_uses : (n : ℕ) (t : Table) → 1 ≤ uses n t → (m : ℕ) × (o : Object) × (entry t m ≡ Some o) × Refers o n
some_uses n [] h = absurd (omega (arith, h))
some_uses n (None ∷ t) h = let r = some_uses n t (omega (arith, h)) in (suc r.0, r.1, r.2, r.3)
some_uses n (Some o ∷ t) h = by_case (object_uses n (Some o)) refl (some_uses n t)
  where
    by_case : (a : ℕ) → object_uses n (Some o) ≡ a → (1 ≤ uses n t → (m : ℕ) × (p : Object) × (entry t m ≡ Some p) × Refers p n) → (m : ℕ) × (p : Object) × (entry (Some o ∷ t) m ≡ Some p) × Refers p n
    by_case zero q more = let r = more (omega (arith, h, q)) in (suc r.0, r.1, r.2, r.3)
    by_case (suc a) q more = (0, o, refl, some_object n o (omega (arith, q)))

pub some_page : (n : ℕ) (qs : List PageObject) → 1 ≤ times n (page_values qs) → IsTrue (any_of_page qs (λ q. n == place_of q))
some_page n [] h = absurd (omega (arith, h))
some_page n (q ∷ qs) h = by_case (n == place_of q) refl (some_page n qs)
  where
    rest : Bool
    rest = any_of_page qs (λ q. n == place_of q)

    by_case : (b : Bool) → (n == place_of q) ≡ b → (1 ≤ times n (page_values qs) → IsTrue rest) → IsTrue (or (n == place_of q) rest)
    by_case true e more = or_left (n == place_of q) rest e
    by_case false e more = let z : one_if (n == place_of q) ≡ 0 = ap one_if e in or_right (n == place_of q) rest (more (omega (arith, h, z)))

any_roots : (t : Table) (roots : List Value) (n : ℕ) → IsRoot table t [] n → IsRoot table t roots n
any_roots t roots n (held_root r) = absurd r
any_roots t roots n (page_root q e) = page_root q e

pub some_root : (v : View) (n : ℕ) → 1 ≤ times n (all_roots v) → IsRoot table v.objects (view_roots v) n
unfolding is_root
some_root v n h = by_case (times n (page_values page)) refl
  where
    by_case : (a : ℕ) → times n (page_values page) ≡ a → IsRoot table v.objects (view_roots v) n
    by_case zero q = let b = times_append n (page_values page) (view_roots v) in held_root (some_named n (view_roots v) (omega (arith, h, b, q)))
    by_case (suc a) q = any_roots v.objects (view_roots v) n (root_is table v.objects [] n (some_page n page (omega (arith, q))))

pub unused_is : (x : Option ℕ) → is_zero x ≡ true → x ≡ Some 0
unused_is None h = cc
unused_is (Some n) h = ap (λ m. Some m) (same_test n 0 h)

-- nothing refers to what has the count 0
pub no_reference : (t : Table) (f : ℕ → ℕ) (cs : List (Option ℕ)) (k : ℕ) → IsTallied t f cs → is_unused cs k ≡ true → (is_some (entry t k) ≡ true) × (f k ≡ 0)
no_reference t f cs k h unused =
    let is = unused_is (count_at cs k) unused in
    let live = sym (tally_entered t f cs h k) ∙ ap is_some is in
    (live, sym (tally_number t f cs k h live) ∙ ap (λ x. unwrap_or x 0) is)

-- the object of a count that is 0
pub unused_live : (t : Table) (f : ℕ → ℕ) (cs : List (Option ℕ)) (k : ℕ) → IsTallied t f cs → is_unused cs k ≡ true → is_live t (Ref k) ≡ true
unfolding is_live
unused_live t f cs k h unused = (no_reference t f cs k h unused).0

-- an object that goes leaves its references in hand
pub counted_dropped : (t : Table) (roots : List Value) (cs : List (Option ℕ)) (k : ℕ) (o : Object) → IsCounted t roots [] cs → is_unused cs k ≡ true → entry t k ≡ Some o → k < length t
    → IsCounted (slice_set t k None) roots (Ref o.class ∷ o.fields) (set cs k None)
counted_dropped t roots cs k o h unused there within = record { tallied = λ j. tallied j (number_cases j k); closed = λ j dead. closed j dead (number_cases j k) }
  where
    u : Table
    u = slice_set t k None

    hand : List Value
    hand = Ref o.class ∷ o.fields

    none : references t roots [] k ≡ 0
    none = (no_reference t (references t roots []) cs k h.tallied unused).1

    inside : k < length cs
    inside = counted_within cs k (ap is_some (unused_is (count_at cs k) unused))

    total : (j : ℕ) → references u roots hand j ≡ references t roots [] j
    total j = let a = uses_set j t k in let b : object_uses j (entry t k) ≡ object_uses j (Some o) = ap (object_uses j) there in omega (arith, a, b)

    tallied : (j : ℕ) → (j ≡ k) ⊎ (j ≢ k) → count_at (set cs k None) j ≡ cond (is_some (entry u j)) (Some (references u roots hand j)) None
    tallied j (inl e) =
        subst (λ y. count_at (set cs k None) y ≡ cond (is_some (entry u y)) (Some (references u roots hand y)) None) (sym e)
        (get_or-set_same cs k None None inside ∙ ap (λ x. cond (is_some x) (Some (references u roots hand k)) None) (sym (entry-set_same t k None within)))
    tallied j (inr ne) =
        get_or-set_other cs k j None None ne ∙ h.tallied j ∙ ap (λ m. cond (is_some (entry t j)) (Some m) None) (sym (total j))
        ∙ ap (λ x. cond (is_some x) (Some (references u roots hand j)) None) (sym (entry-set_other t k j None ne))

    closed : (j : ℕ) → is_some (entry u j) ≡ false → (j ≡ k) ⊎ (j ≢ k) → references u roots hand j ≡ 0
    closed j dead (inl e) = total j ∙ ap (references t roots []) e ∙ none
    closed j dead (inr ne) = total j ∙ h.closed j (ap is_some (sym (entry-set_other t k j None ne)) ∙ dead)

module _ (v : View) (cs : List (Option ℕ)) (k : ℕ) (h : IsCounted v.objects (all_roots v) [] cs) (unused : is_unused cs k ≡ true) where
  abbrev without : Table
  without = slice_set v.objects k None

  needed_left : (n : ℕ) → 1 ≤ references v.objects (all_roots v) [] n → IsTrue (left without n)
  needed_left n some = elim (number_cases n k) [
    | inl e ↦
        let none = (no_reference v.objects (references v.objects (all_roots v) []) cs k h.tallied unused).1 in
        let same : references v.objects (all_roots v) [] n ≡ references v.objects (all_roots v) [] k = ap (references v.objects (all_roots v) []) e in
        absurd (omega (arith, none, same, some))
    | inr ne ↦ ap is_some (entry-set_other v.objects k n None ne) ∙ live (is_some (entry v.objects n)) refl
  ]
    where
      live : (b : Bool) → is_some (entry v.objects n) ≡ b → is_some (entry v.objects n) ≡ true
      live true e = e
      live false e = let z = h.closed n e in absurd (omega (arith, z, some))

  -- what is left is all that is needed
  pub keeps_left : KeepsNeeded v.objects (view_roots v) (left without)
  keeps_left = record {
    root = λ n r. let a = root_some v n r in needed_left n (omega (arith, a));
    referred = λ m o n e r. let a = uses_some n v.objects m o e r in needed_left n (omega (arith, a));
  }

  length_without : length without ≡ length v.objects
  length_without = by_list v.objects k
    where
      by_list : (t : Table) (j : ℕ) → length (slice_set t j None) ≡ length t
      by_list [] j = refl
      by_list (e ∷ t) zero = refl
      by_list (e ∷ t) (suc j) = ap (λ n. suc n) (by_list t j)

  left_same : (n : ℕ) (o : Object) → entry without n ≡ Some o → entry v.objects n ≡ Some o
  left_same n o e = elim (number_cases n k) [
    | inl q ↦ by_list v.objects k (subst (λ y. entry without y ≡ Some o) q e)
    | inr ne ↦ sym (entry-set_other v.objects k n None ne) ∙ e
  ]
    where
      by_list : (t : Table) (j : ℕ) → entry (slice_set t j None) j ≡ Some o → entry v.objects n ≡ Some o
      by_list [] j q = cc
      by_list (x ∷ t) zero q = cc
      by_list (x ∷ t) (suc j) q = by_list t j q

  pub without_is : without ≡ settled_table v.objects (left without)
  without_is = left_is v.objects without length_without left_same

pub fewer : (t : Table) (k : ℕ) → is_some (entry t k) ≡ true → total_used one (slice_set t k None) < total_used one t
fewer [] k h = cc
fewer (None ∷ t) zero h = cc
fewer (Some o ∷ t) zero h = omega arith
fewer (None ∷ t) (suc k) h = fewer t k h
fewer (Some o ∷ t) (suc k) h = let s = fewer t k h in omega (arith, s)

pub moved_root : (first v : View) (n : ℕ) → v.held ≡ first.held → v.head ≡ first.head → IsRoot table v.objects (view_roots v) n → IsRoot table first.objects (view_roots first) n
moved_root first v n held head (held_root r) = held_root (subst (λ xs. AnyRefTo n xs) (moved_roots first v held head) r)
moved_root first v n held head (page_root q e) = page_root q e

-- where no count is 0, what is left is the largest set that supports itself
pub settles_to : (first v : View) (cs : List (Option ℕ)) → DropsTo first.objects v.objects (view_roots first) → v.held ≡ first.held → v.head ≡ first.head
    → IsCounted v.objects (all_roots v) [] cs → ((k : ℕ) → is_unused cs k ≡ false) → SettlesTo first v
settles_to first v cs drops held head counted none = record {
  set = left v.objects;
  is_settled = settled first.objects v.objects (view_roots first) drops (λ n h. supported n h (times n (all_roots v)) refl);
  objects = left_is first.objects v.objects drops.as_long drops.same;
  held = held;
  head = head;
}
  where
    some : (n : ℕ) → is_some (entry v.objects n) ≡ true → references v.objects (all_roots v) [] n ≢ 0
    some n live z =
        let is = counted.tallied n ∙ ap (λ b. cond b (Some (references v.objects (all_roots v) [] n)) None) live ∙ ap (λ m. Some m) z in
        let unused : is_unused cs n ≡ true = ap is_zero is in let no = none n in cc

    supported : (n : ℕ) → IsTrue (left v.objects n) → (a : ℕ) → times n (all_roots v) ≡ a → IsRoot table first.objects (view_roots first) n ⊎ ((m : ℕ) × (o : Object) × (entry v.objects m ≡ Some o) × Refers o n)
    supported n h zero q = let p = some n h in inr (some_uses n v.objects (omega (arith, p, q)))
    supported n h (suc a) q = inl (moved_root first v n held head (some_root v n (omega (arith, q))))

pub unused_within : (cs : List (Option ℕ)) (k : ℕ) → is_unused cs k ≡ true → k < length cs
unused_within cs k unused = counted_within cs k (ap is_some (unused_is (count_at cs k) unused))
