-- What the searches answer, as rows of the table of faults.
use Rattle.std.proofs.Common.{cond, ◌≡◌, ℕ, ◌*◌, ◌/◌, ◌%◌, ◌<◌, ◌≤◌, ◌⊎◌, Bool, true, false, ◌==◌, nat_lt, List, length, get_or, arith, refl, sym, subst, ◌∙◌, inl, inr, Some, None}
use Rattle.std.specs.Prelude.{Contains}
use Rattle.std.proofs.lemmas.Bool.{cases_lt, both_ways, and_left, and_right, le-ltb, or_parts, and_parts, ltb-false, ltb-true, eqb-true}
use Rattle.std.proofs.lemmas.List.{get_or_default}
use Rattle.st_model.specs.Limits.{most_words}
use Rattle.st_model.specs.declared.head.ImageHead.{ImageHead}
use Rattle.st_model.specs.declared.fault.ImageFault.{ImageFault}
use Rattle.st_model.specs.declared.fault.ImageFault.TheVariants.{Short, Lengths, Capacity, Size, Class, Field, Method, Root}
use Rattle.st_model.specs.Image.{table_end, first_form, second_form, form_of, entries_of, is_used, names}
use Rattle.st_model.specs.Faults.{Fails, At, row, Sooner, short_fails, lengths_fail, capacity_fails, size_fails, class_fails, field_fails, method_fails, root_fails, roots}
use Rattle.st_image.specs.inside.Sizes.{IsSized, AreInside}
use Rattle.st_image.specs.inside.Passes.{IsFirst, IsFirstPair, IsLeastAmong}
use Rattle.st_image.specs.inside.Rows.{IsClean, IsFirstOf}

-- past the table no entry is in use
pub beyond : (h : ImageHead) (bytes : List ℕ) (k : ℕ) → entries_of h ≤ k → is_used h bytes k ≡ false
unfolding is_used
beyond h bytes k above = and_right (nat_lt 0 k) _ (and_left (nat_lt k (entries_of h)) _ (le-ltb k (entries_of h) above))

-- what a pointer names is in the table
pub named : (h : ImageHead) (bytes : List ℕ) (p : ℕ) → names h bytes p ≡ true → p / 2 < entries_of h
unfolding names is_used
named h bytes p e = ltb-true _ _ (and_parts _ _ (and_parts _ _ (and_parts _ _ e).1).1).0

pub named_even : (h : ImageHead) (bytes : List ℕ) (p : ℕ) → names h bytes p ≡ true → p % 2 ≡ 0
unfolding names
named_even h bytes p e = eqb-true _ _ (and_parts _ _ e).0

pub named_used : (h : ImageHead) (bytes : List ℕ) (p : ℕ) → names h bytes p ≡ true → is_used h bytes (p / 2) ≡ true
unfolding names
named_used h bytes p e = (and_parts _ _ e).1

pub used_above : (h : ImageHead) (bytes : List ℕ) (k : ℕ) → is_used h bytes k ≡ true → 0 < k
unfolding is_used
used_above h bytes k e = ltb-true _ _ (and_parts _ _ e).0

pub used_below_end : (h : ImageHead) (bytes : List ℕ) (k : ℕ) → is_used h bytes k ≡ true → k < entries_of h
unfolding is_used
used_below_end h bytes k e = ltb-true _ _ (and_parts _ _ (and_parts _ _ e).1).0

-- tests of the entries of even pointers

abbrev pub IsFalseFrom : ℕ → (ℕ → Bool) → Type 0
IsFalseFrom n test = (k : ℕ) → n ≤ k → test k ≡ false

pub at_none : (test : ℕ → Bool) (n : ℕ) → IsFalseFrom n test → IsFirst test n None → (p : ℕ) → ¬ At p test
at_none test n over none p at = both_ways (test (p / 2)) (last (cases_lt (p / 2) n)) at.1
  where
    last : ((p / 2 < n) ⊎ (n ≤ p / 2)) → test (p / 2) ≡ false
    last (inl e) = none (p / 2) e
    last (inr e) = over (p / 2) e

pub at_some : (test : ℕ → Bool) (n k : ℕ) → IsFirst test n (Some k) → At (2 * k) test
at_some test n k found = let e : k ≡ 2 * k / 2 = omega arith in (omega arith, subst (λ (x : ℕ). test x ≡ true) e found.1)

pub at_least : (test : ℕ → Bool) (n k : ℕ) → IsFirst test n (Some k) → (p : ℕ) → p < 2 * k → ¬ At p test
at_least test n k found p below at = both_ways (test (p / 2)) (found.2 (p / 2) (omega arith)) at.1

-- the file and its lengths

pub short_clean : (h : ImageHead) (bytes : List ℕ) → short_fails h bytes ≡ false → IsClean h bytes 1
unfolding Fails
short_clean h bytes none Short e fails = both_ways _ none fails
short_clean h bytes none g e fails = absurd (omega arith)

pub short_first : (h : ImageHead) (bytes : List ℕ) → short_fails h bytes ≡ true → IsFirstOf h bytes 1 Short
unfolding Fails
short_first h bytes some = record { at = refl; fails = some; least = least }
  where
    least : (g : ImageFault) → row g ≡ 1 → Sooner g Short → ¬ Fails h bytes g
    least Short e (inl s) fails = omega (arith, s)
    least Short e (inr s) fails = omega (arith, s.1)
    least g e s fails = absurd (omega arith)

pub lengths_clean : (h : ImageHead) (bytes : List ℕ) → lengths_fail h ≡ false → IsClean h bytes 2
unfolding Fails
lengths_clean h bytes none Lengths e fails = both_ways _ none fails
lengths_clean h bytes none g e fails = absurd (omega arith)

pub lengths_first : (h : ImageHead) (bytes : List ℕ) → lengths_fail h ≡ true → IsFirstOf h bytes 2 Lengths
unfolding Fails
lengths_first h bytes some = record { at = refl; fails = some; least = least }
  where
    least : (g : ImageFault) → row g ≡ 2 → Sooner g Lengths → ¬ Fails h bytes g
    least Lengths e (inl s) fails = omega (arith, s)
    least Lengths e (inr s) fails = omega (arith, s.1)
    least g e s fails = absurd (omega arith)

pub capacity_clean : (h : ImageHead) (bytes : List ℕ) → capacity_fails h bytes ≡ false → IsClean h bytes 3
unfolding Fails
capacity_clean h bytes none Capacity e fails = both_ways _ none fails
capacity_clean h bytes none g e fails = absurd (omega arith)

pub capacity_first : (h : ImageHead) (bytes : List ℕ) → capacity_fails h bytes ≡ true → IsFirstOf h bytes 3 Capacity
unfolding Fails
capacity_first h bytes some = record { at = refl; fails = some; least = least }
  where
    least : (g : ImageFault) → row g ≡ 3 → Sooner g Capacity → ¬ Fails h bytes g
    least Capacity e (inl s) fails = omega (arith, s)
    least Capacity e (inr s) fails = omega (arith, s.1)
    least g e s fails = absurd (omega arith)

-- the objects

size_beyond : (h : ImageHead) (bytes : List ℕ) → IsFalseFrom (entries_of h) (size_fails h bytes)
unfolding size_fails
size_beyond h bytes k above = and_left _ _ (beyond h bytes k above)

pub size_clean : (h : ImageHead) (bytes : List ℕ) → IsFirst (size_fails h bytes) (entries_of h) None → IsClean h bytes 4
unfolding Fails
size_clean h bytes none (Size p) e fails = at_none _ _ (size_beyond h bytes) none p fails
size_clean h bytes none g e fails = absurd (omega arith)

pub size_first : (h : ImageHead) (bytes : List ℕ) (k : ℕ) → IsFirst (size_fails h bytes) (entries_of h) (Some k) → IsFirstOf h bytes 4 (Size (2 * k))
unfolding Fails
size_first h bytes k found = record { at = refl; fails = at_some _ _ k found; least = least }
  where
    least : (g : ImageFault) → row g ≡ 4 → Sooner g (Size (2 * k)) → ¬ Fails h bytes g
    least (Size p) e (inl s) fails = at_least _ _ k found p s fails
    least (Size p) e (inr s) fails = absurd (omega (arith, s.1))
    least g e s fails = absurd (omega arith)

class_beyond : (h : ImageHead) (bytes : List ℕ) → IsFalseFrom (entries_of h) (class_fails h bytes)
unfolding class_fails
class_beyond h bytes k above = and_left _ _ (beyond h bytes k above)

pub class_clean : (h : ImageHead) (bytes : List ℕ) → IsFirst (class_fails h bytes) (entries_of h) None → IsClean h bytes 6
unfolding Fails
class_clean h bytes none (Class p) e fails = at_none _ _ (class_beyond h bytes) none p fails
class_clean h bytes none g e fails = absurd (omega arith)

pub class_first : (h : ImageHead) (bytes : List ℕ) (k : ℕ) → IsFirst (class_fails h bytes) (entries_of h) (Some k) → IsFirstOf h bytes 6 (Class (2 * k))
unfolding Fails
class_first h bytes k found = record { at = refl; fails = at_some _ _ k found; least = least }
  where
    least : (g : ImageFault) → row g ≡ 6 → Sooner g (Class (2 * k)) → ¬ Fails h bytes g
    least (Class p) e (inl s) fails = at_least _ _ k found p s fails
    least (Class p) e (inr s) fails = absurd (omega (arith, s.1))
    least g e s fails = absurd (omega arith)

method_beyond : (h : ImageHead) (bytes : List ℕ) → IsFalseFrom (entries_of h) (method_fails h bytes)
unfolding method_fails
method_beyond h bytes k above = and_left _ _ (beyond h bytes k above)

pub method_clean : (h : ImageHead) (bytes : List ℕ) → IsFirst (method_fails h bytes) (entries_of h) None → IsClean h bytes 8
unfolding Fails
method_clean h bytes none (Method p) e fails = at_none _ _ (method_beyond h bytes) none p fails
method_clean h bytes none g e fails = absurd (omega arith)

pub method_first : (h : ImageHead) (bytes : List ℕ) (k : ℕ) → IsFirst (method_fails h bytes) (entries_of h) (Some k) → IsFirstOf h bytes 8 (Method (2 * k))
unfolding Fails
method_first h bytes k found = record { at = refl; fails = at_some _ _ k found; least = least }
  where
    least : (g : ImageFault) → row g ≡ 8 → Sooner g (Method (2 * k)) → ¬ Fails h bytes g
    least (Method p) e (inl s) fails = at_least _ _ k found p s fails
    least (Method p) e (inr s) fails = absurd (omega (arith, s.1))
    least g e s fails = absurd (omega arith)

-- fields

field_beyond : (h : ImageHead) (bytes : List ℕ) (k i : ℕ) → entries_of h ≤ k → field_fails h bytes k i ≡ false
unfolding field_fails
field_beyond h bytes k i above = and_left _ _ (beyond h bytes k above)

pub field_clean : (h : ImageHead) (bytes : List ℕ) → IsFirstPair (field_fails h bytes) (entries_of h) None → IsClean h bytes 7
unfolding Fails
field_clean h bytes none (Field p i) e fails = at_none _ _ (λ k above. field_beyond h bytes k i above) (λ k k_in. none k i k_in) p fails
field_clean h bytes none g e fails = absurd (omega arith)

pub field_first : (h : ImageHead) (bytes : List ℕ) (f : ℕ × ℕ) → IsFirstPair (field_fails h bytes) (entries_of h) (Some f)
    → IsFirstOf h bytes 7 (Field (2 * f.0) f.1)
unfolding Fails
field_first h bytes f found =
    let e : f.0 ≡ 2 * f.0 / 2 = omega arith in
    record { at = refl; fails = (omega arith, subst (λ (x : ℕ). field_fails h bytes x f.1 ≡ true) e found.1); least = least }
  where
    least : (g : ImageFault) → row g ≡ 7 → Sooner g (Field (2 * f.0) f.1) → ¬ Fails h bytes g
    least (Field p i) e (inl s) fails = both_ways (field_fails h bytes (p / 2) i) (found.2 (p / 2) i (omega arith)) fails.1
    least (Field p i) e (inr s) fails =
        let a : f.0 ≡ p / 2 = omega (arith, s.0) in
        both_ways (field_fails h bytes (p / 2) i) (subst (λ (x : ℕ). field_fails h bytes x i ≡ false) a (found.3 i s.1)) fails.1
    least g e s fails = absurd (omega arith)

-- roots

-- a member of a list by its place
place_in : (xs : List ℕ) (p : ℕ) → (c : Contains xs p) → get_or xs c.0 0 ≡ p
place_in xs p c = get_or_default xs c.0 0 p c.1 ∙ c.2

contained : (xs : List ℕ) (p j : ℕ) → j < length xs → get_or xs j 0 ≡ p → Contains xs p
contained xs p j j_in e = (j, j_in, get_or_default xs j p 0 j_in ∙ e)

pub root_clean : (h : ImageHead) (bytes : List ℕ) → IsLeastAmong (root_fails h bytes) (roots h) 22 None → IsClean h bytes 9
unfolding Fails
root_clean h bytes none (Root p) e fails =
    both_ways (root_fails h bytes p) (subst (λ (x : ℕ). root_fails h bytes x ≡ false) (place_in (roots h) p fails.0) (none fails.0.0 fails.0.1)) fails.1
root_clean h bytes none g e fails = absurd (omega arith)

pub root_first : (h : ImageHead) (bytes : List ℕ) (p : ℕ) → IsLeastAmong (root_fails h bytes) (roots h) 22 (Some p) → IsFirstOf h bytes 9 (Root p)
unfolding Fails
root_first h bytes p found = record {
  at = refl;
  fails = (contained (roots h) p found.0.0 found.0.1 found.0.2, found.1);
  least = least;
}
  where
    least : (g : ImageFault) → row g ≡ 9 → Sooner g (Root p) → ¬ Fails h bytes g
    least (Root q) e (inl s) fails =
        let at = place_in (roots h) q fails.0 in
        let a = found.2 fails.0.0 fails.0.1 (subst (λ (x : ℕ). root_fails h bytes x ≡ true) (sym at) fails.1) in
        omega arith
    least (Root q) e (inr s) fails = absurd (omega (arith, s.1))
    least g e s fails = absurd (omega arith)

-- what the tests that pass leave

few_by : (t : ℕ) (b : Bool) → t ≤ 32768 * (cond b second_form first_form).width → t / (cond b second_form first_form).width ≤ 32768
few_by t true l = omega (arith, l)
few_by t false l = omega (arith, l)

few_entries : (h : ImageHead) → h.table ≤ 32768 * (form_of h).width → entries_of h ≤ 32768
unfolding entries_of form_of
few_entries h l = few_by h.table (h.version == 2) l

most_by : (n : ℕ) (b : Bool) → n ≤ (cond b second_form first_form).most → n ≤ most_words
most_by n true l = l
most_by n false l = omega (arith, l)

-- the most words of either version
pub most_in_version : (h : ImageHead) (n : ℕ) → n ≤ (form_of h).most → n ≤ most_words
unfolding form_of
most_in_version h n l = most_by n (h.version == 2) l

pub sized : (h : ImageHead) (bytes : List ℕ) → short_fails h bytes ≡ false → lengths_fail h ≡ false → IsSized h bytes
unfolding short_fails lengths_fail
sized h bytes short lengths =
    let file = or_parts (nat_lt (length bytes) 512) (nat_lt (length bytes) (table_end h)) short in
    let a = or_parts _ (nat_lt (form_of h).most h.space) lengths in
    let b = or_parts _ (nat_lt (32768 * (form_of h).width) h.table) a.0 in
    record { few = few_entries h (ltb-false _ _ b.1); space = most_in_version h h.space (ltb-false _ _ a.1); file = ltb-false _ _ file.1 }

pub inside : (h : ImageHead) (bytes : List ℕ) → IsFirst (size_fails h bytes) (entries_of h) None → AreInside h bytes
unfolding size_fails
inside h bytes none k k_in used =
    let a = none k k_in in
    let b = or_parts _ _ (rw used at a) in
    let d = or_parts _ _ b.0 in
    record { least = ltb-false _ _ d.1; space = ltb-false _ _ d.0 }

pub ruleset fault_rows = (short_clean, short_first, lengths_clean, lengths_first, capacity_clean, capacity_first, size_clean, size_first, class_clean, class_first, field_clean, field_first, method_clean, method_first, root_clean, root_first, sized, inside)
