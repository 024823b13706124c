-- The list of the objects whose count is 0, where objects, links or counts change.
use Rattle.std.proofs.Common.{◌≡◌, ◌≢◌, ℕ, zero, suc, ◌*◌, ◌/◌, ◌<◌, ◌≤◌, Bool, true, false, cond, List, [], ◌∷◌, Option, Some, None, length, get_or, set, is_some, refl, sym, ap, ◌∙◌, subst, arith}
use Rattle.std.specs.Prelude.{◌==◌, slice_set}
use mathlib.Core.Bool.{Bool-set}
use Rattle.std.proofs.Math.Logic.{∥∥₁_elim, ∥∥₁_map}
use Rattle.std.proofs.lemmas.List.{get_or-set_other}
use Rattle.st_model.specs.declared.oop.Oop.{Oop}
use Rattle.st_model.specs.Values.{Value, Small, Ref}
use Rattle.st_model.specs.Objects.{Object, with_field}
use Rattle.st_model.specs.Table.{Table, entry, first_free, placed}
use Rattle.st_model.proofs.TableLemmas.{placed-first, placed-other}
use Rattle.st_model.specs.View.{is_live, object_of, with_stored}
use Rattle.st_table.specs.inside.Entries.{place}
use Rattle.st_heap.specs.declared.store.BlockStore.{BlockStore}
use Rattle.st_heap.specs.declared.objects.HeapObjects.{HeapObjects}
use Rattle.st_heap.specs.inside.Links.{next_of, before_of, SameLinks, SameOtherLinks}
use Rattle.st_heap.specs.inside.Tables.{objects_of}
use Rattle.st_heap.specs.inside.Stores.{stored_of}
use Rattle.st_heap.specs.inside.Heaps.{words_of, blocks_of}
use Rattle.st_heap.specs.inside.Stored.{slot, stored_all}
use Rattle.st_heap.specs.declared.block.Block.{Block}
use Rattle.st_table.specs.declared.entry.Entry.{Entry}
use Rattle.st_heap.proofs.Living.{is_some-entry}
use Rattle.st_counted.specs.declared.counts.Counts.{Counts}
use Rattle.st_counted.specs.inside.Counts.{count_at, is_counted, is_zero, is_unused}
use Rattle.st_counted.specs.inside.Contents.{counts_of}
use Rattle.st_counted.specs.inside.Links.{times, Listed, Holds, IsEnd, AreStored, IsListed, with_member, without_member}
use Rattle.st_counted.specs.inside.References.{IsTallied}
use Rattle.st_counted.proofs.Linked.{same_test, other_test, follows, precedes, first_before, never_zero, stays, member}
use Rattle.st_counted.proofs.ZeroList.{first_passes, zero_counted, absent_zero, counted_within, relisted, listed_still}
use Rattle.st_counted.proofs.Tallying.{tally_entered}
use Rattle.st_counted.proofs.Referring.{live_changed}

passes : (zs : List ℕ) (p : ℕ → Bool) (k : ℕ) → ((o : ℕ) → times o zs ≡ cond (p o) 1 0) → 1 ≤ times k zs → p k ≡ true
passes zs p k exact there = by_case (p k) (exact k)
  where
    by_case : (t : Bool) → times k zs ≡ cond t 1 0 → t ≡ true
    by_case true e = refl
    by_case false e = absurd (omega (arith, there, e))

-- what follows a member passes
pub next_passes : (s : BlockStore) (first : ℕ) (p : ℕ → Bool) (k : ℕ) → Holds s first p → p k ≡ true → next_of s k ≢ 0 → p (next_of s k) ≡ true
next_passes s first p k h is_in ne = ∥∥₁_elim h (hlevel (Bool-set)) (λ h. passes h.list p (next_of s k) h.exact (follows 32768 (next_of s) (before_of s) 0 first h.list k h.chain (member h.list p k h.exact is_in) ne))

-- what stands before a member passes
pub before_passes : (s : BlockStore) (first : ℕ) (p : ℕ → Bool) (k : ℕ) → Holds s first p → p k ≡ true → before_of s k ≢ 0 → p (before_of s k) ≡ true
before_passes s first p k h is_in ne = ∥∥₁_elim h (hlevel (Bool-set)) (λ h. within h)
  where
    within : Listed s first p → p (before_of s k) ≡ true
    within h = by_case (first == k) refl
      where
        by_case : (t : Bool) → (first == k) ≡ t → p (before_of s k) ≡ true
        by_case true q =
            let at = same_test first k q in
            let some : first ≢ 0 = λ z. let none : times 0 h.list ≡ 0 = never_zero 32768 (next_of s) (before_of s) 0 first h.list h.chain in
            let there : 1 ≤ times 0 h.list = subst (λ y. 1 ≤ times y h.list) (sym at ∙ z) (member h.list p k h.exact is_in) in absurd (omega (arith, none, there)) in
            absurd (ne (ap (before_of s) (sym at) ∙ first_before 32768 (next_of s) (before_of s) 0 first h.list h.chain some))
        by_case false q = passes h.list p (before_of s k) h.exact (precedes 32768 (next_of s) (before_of s) 0 first h.list k h.chain (member h.list p k h.exact is_in) (other_test first k q))

-- the list stands where the links of its members do
pub holds_still : (s s' : BlockStore) (first : ℕ) (p : ℕ → Bool) → ((k : ℕ) → p k ≡ true → (next_of s' k ≡ next_of s k) × (before_of s' k ≡ before_of s k)) → Holds s first p → Holds s' first p
holds_still s s' first p same h =
    ∥∥₁_map h (λ h. record {
      list = h.list;
      chain = stays 32768 (next_of s) (before_of s) (next_of s') (before_of s') 0 first h.list h.chain (λ z t. same z (passes h.list p z h.exact t));
      exact = h.exact;
    })

pub holds_linked : (s s' : BlockStore) (first : ℕ) (p : ℕ → Bool) → SameLinks s s' → Holds s first p → Holds s' first p
holds_linked s s' first p same h = holds_still s s' first p (λ k q. (same.next k, same.before k)) h

not_out : (b : Bool) → b ≡ true → b ≡ false → ⊥
not_out b e f = let z : true ≡ false = sym e ∙ f in cc

-- also where the links change of what is no member
pub holds_beside : (s s' : BlockStore) (first k : ℕ) (p : ℕ → Bool) → SameOtherLinks s s' k → p k ≡ false → Holds s first p → Holds s' first p
holds_beside s s' first k p same out h = holds_still s s' first p (λ j q. let ne : j ≢ k = λ e. not_out (p k) (ap p (sym e) ∙ q) out in (same.next j ne, same.before j ne)) h

-- what stands where a count is
pub unused_stored : (o : HeapObjects) (cs : List (Option ℕ)) (k : ℕ) → AreStored o (is_counted cs) → is_unused cs k ≡ true → is_some (entry (objects_of o) k) ≡ true
unused_stored o cs k stored unused = stored k (zero_counted (count_at cs k) unused)

pub first_end : (o : HeapObjects) (first : ℕ) (cs : List (Option ℕ)) → Holds o.store first (is_unused cs) → AreStored o (is_counted cs) → IsEnd o first
first_end o first cs h stored = λ ne. unused_stored o cs first stored (first_passes o.store first (is_unused cs) h ne)

pub live_place : (t : Table) (k : ℕ) → is_some (entry t k) ≡ true → is_live t (Ref k) ≡ true
unfolding is_live
live_place t k h = h

-- one count changes, and objects stay
pub stored_set : (o o' : HeapObjects) (cs : List (Option ℕ)) (k : ℕ) (x : Option ℕ) → objects_of o' ≡ objects_of o → is_some (entry (objects_of o) k) ≡ true → AreStored o (is_counted cs) → AreStored o' (is_counted (set cs k x))
stored_set o o' cs k x same here stored = λ j counted. ap (λ (t : Table). is_some (entry t j)) same ∙ by_case j (k == j) refl counted
  where
    by_case : (j : ℕ) (t : Bool) → (k == j) ≡ t → is_counted (set cs k x) j ≡ true → is_some (entry (objects_of o) j) ≡ true
    by_case j true q counted = ap (λ y. is_some (entry (objects_of o) y)) (sym (same_test k j q)) ∙ here
    by_case j false q counted = stored j (sym (ap is_some (get_or-set_other cs k j x None (λ w. other_test k j q (sym w)))) ∙ counted)

-- what is counted is stored
pub tally_stored : (o : HeapObjects) (f : ℕ → ℕ) (cs : List (Option ℕ)) → IsTallied (objects_of o) f cs → AreStored o (is_counted cs)
tally_stored o f cs h = λ k counted. sym (tally_entered (objects_of o) f cs h k) ∙ counted

-- objects change, and links stay
pub relinked : (o o' : HeapObjects) (c : Counts) → IsListed o c → SameLinks o.store o'.store → AreStored o' (is_counted (counts_of c)) → IsListed o' c
relinked o o' c h same stored = record { list = holds_linked o.store o'.store (place c.first) (is_unused (counts_of c)) same h.list; stored = stored }

-- at place 0 stands nothing
pub some_place : (o : HeapObjects) (k : ℕ) → is_some (entry (objects_of o) k) ≡ true → k ≢ 0
some_place o k here at =
    let s = o.store in
    let none = slot_none (words_of s.heap) (blocks_of s.heap) s.table s.tied.first in
    let there : is_some (entry (objects_of o) 0) ≡ true = ap (λ j. is_some (entry (objects_of o) j)) (sym at) ∙ here in
    let lost : is_some (entry (objects_of o) 0) ≡ false = is_some-entry (stored_of s) 0 ∙ none in
    not_out (is_some (entry (objects_of o) 0)) there lost
  where
    slot_none : (ws : List ℕ) (bs : List Block) (es : List (Option Entry)) → get_or es 0 None ≡ None → is_some (slot (stored_all ws bs es) 0) ≡ false
    slot_none ws bs [] h = refl
    slot_none ws bs (None ∷ es) h = refl
    slot_none ws bs (Some e ∷ es) h = cc

pub same_end : (o o' : HeapObjects) (k : ℕ) → objects_of o' ≡ objects_of o → IsEnd o k → IsEnd o' k
same_end o o' k same h = λ ne. ap (λ (t : Table). is_some (entry t k)) same ∙ h ne

pub half_of : (w k : ℕ) → w ≡ 2 * k → w / 2 ≡ k
half_of w k e = omega (arith, e)

-- what follows the object of a word in the list, and what stands before it, is an object or none
pub next_end : (o : HeapObjects) (c : Counts) (w k : ℕ) → w ≡ 2 * k → IsListed o c → is_unused (counts_of c) k ≡ true → IsEnd o (next_of o.store (w / 2))
next_end o c w k two h unused =
    let p = is_unused (counts_of c) in
    subst (λ j. IsEnd o (next_of o.store j)) (sym (half_of w k two)) (λ ne. unused_stored o (counts_of c) (next_of o.store k) h.stored (next_passes o.store (place c.first) p k h.list unused ne))

pub before_end : (o : HeapObjects) (c : Counts) (w k : ℕ) → w ≡ 2 * k → IsListed o c → is_unused (counts_of c) k ≡ true → IsEnd o (before_of o.store (w / 2))
before_end o c w k two h unused =
    let p = is_unused (counts_of c) in
    subst (λ j. IsEnd o (before_of o.store j)) (sym (half_of w k two)) (λ ne. unused_stored o (counts_of c) (before_of o.store k) h.stored (before_passes o.store (place c.first) p k h.list unused ne))

-- one object leaves the list, and its count is another one
pub listed_without : (o o' : HeapObjects) (c c' : Counts) (w k : ℕ) (x : Option ℕ) → IsListed o c → is_unused (counts_of c) k ≡ true → is_zero x ≡ false → w / 2 ≡ k → counts_of c' ≡ set (counts_of c) k x → objects_of o' ≡ objects_of o
    → ((p : ℕ → Bool) → Holds o.store (place c.first) p → p (w / 2) ≡ true → Holds o'.store (place c'.first) (without_member (w / 2) p)) → IsListed o' c'
listed_without o o' c c' w k x h unused none_left half is same unlinks =
    let cs = counts_of c in
    let counted = zero_counted (count_at cs k) unused in
    record {
      list = subst (λ ns. Holds o'.store (place c'.first) (is_unused ns)) (sym is)
          (relisted o'.store (place c'.first) cs k x false (counted_within cs k counted) none_left
          (subst (λ j. Holds o'.store (place c'.first) (without_member j (is_unused cs))) half (unlinks (is_unused cs) h.list (ap (is_unused cs) half ∙ unused))));
      stored = subst (λ ns. AreStored o' (is_counted ns)) (sym is) (stored_set o o' cs k x same (h.stored k counted) h.stored);
    }

-- one comes into it
pub listed_with : (o o' : HeapObjects) (c c' : Counts) (k : ℕ) (x : Option ℕ) → IsListed o c → k < length (counts_of c) → is_some (entry (objects_of o) k) ≡ true → is_zero x ≡ true → counts_of c' ≡ set (counts_of c) k x → objects_of o' ≡ objects_of o
    → Holds o'.store (place c'.first) (with_member k (is_unused (counts_of c))) → IsListed o' c'
listed_with o o' c c' k x h within here none_left is same links =
    let cs = counts_of c in
    record {
      list = subst (λ ns. Holds o'.store (place c'.first) (is_unused ns)) (sym is) (relisted o'.store (place c'.first) cs k x true within none_left links);
      stored = subst (λ ns. AreStored o' (is_counted ns)) (sym is) (stored_set o o' cs k x same here h.stored);
    }

-- it stays
pub listed_still_with : (o : HeapObjects) (c c' : Counts) (k : ℕ) (x : Option ℕ) (b : Bool) → IsListed o c → is_counted (counts_of c) k ≡ true → is_zero x ≡ b → is_unused (counts_of c) k ≡ b → c'.first ≡ c.first → counts_of c' ≡ set (counts_of c) k x → IsListed o c'
listed_still_with o c c' k x b h counted none_left was first is =
    let cs = counts_of c in
    record {
      list = subst (λ ns. Holds o.store (place c'.first) (is_unused ns)) (sym is)
          (subst (λ (v : Oop). Holds o.store (place v) (is_unused (set cs k x))) (sym first) (listed_still o.store (place c.first) cs k x b (counted_within cs k counted) none_left was h.list));
      stored = subst (λ ns. AreStored o (is_counted ns)) (sym is) (stored_set o o cs k x refl (h.stored k counted) h.stored);
    }

pub live_with : (t : Table) (o : Value) (i : ℕ) (x : Value) (k : ℕ) → is_some (entry (with_stored t o i x) k) ≡ is_some (entry t k)
unfolding with_stored
live_with t (Small n) i x k = refl
live_with t (Ref n) i x k = live_changed t n k (with_field (object_of t (Ref n)) i x)

-- the list stands where a field is stored
pub stored_listed : (o o' : HeapObjects) (c : Counts) (x : Value) (i : ℕ) (y : Value) → IsListed o c → SameLinks o.store o'.store → objects_of o' ≡ with_stored (objects_of o) x i y → IsListed o' c
stored_listed o o' c x i y h same is = relinked o o' c h same (λ k counted. ap (λ (t : Table). is_some (entry t k)) is ∙ live_with (objects_of o) x i y k ∙ h.stored k counted)

-- the object that went has no count
pub gone_unused : (t : Table) (f : ℕ → ℕ) (cs : List (Option ℕ)) (k : ℕ) → IsTallied (slice_set t k None) f cs → is_unused cs k ≡ false
gone_unused t f cs k h = ap is_zero (h k) ∙ ap (λ b. is_zero (cond b (Some (f k)) None)) (gone t k)
  where
    gone : (u : Table) (j : ℕ) → is_some (entry (slice_set u j None) j) ≡ false
    gone [] j = refl
    gone (e ∷ u) zero = refl
    gone (e ∷ u) (suc j) = gone u j

-- an object goes to which nothing referred
pub listed_gone : (o o' : HeapObjects) (c : Counts) (t : Table) (f : ℕ → ℕ) (k : ℕ) → IsListed o c → SameOtherLinks o.store o'.store k → IsTallied (slice_set t k None) f (counts_of c) → objects_of o' ≡ slice_set t k None → IsListed o' c
listed_gone o o' c t f k h same tally is = record {
  list = holds_beside o.store o'.store (place c.first) k (is_unused (counts_of c)) same (gone_unused t f (counts_of c) k tally) h.list;
  stored = tally_stored o' f (counts_of c) (subst (λ (u : Table). IsTallied u f (counts_of c)) (sym is) tally);
}

-- a new object stands where there was none
pub listed_new : (o o' : HeapObjects) (c : Counts) (n : Object) (k w : ℕ) → IsListed o c → SameOtherLinks o.store o'.store w → w ≡ k → is_counted (counts_of c) k ≡ false → k ≡ first_free (objects_of o) → objects_of o' ≡ placed (objects_of o) n → IsListed o' c
listed_new o o' c n k w h same half absent free is = record {
  list = holds_beside o.store o'.store (place c.first) k (is_unused (counts_of c)) (subst (λ j. SameOtherLinks o.store o'.store j) half same) (absent_zero (count_at (counts_of c) k) absent) h.list;
  stored = λ j counted. ap (λ (t : Table). is_some (entry t j)) is
      ∙ ap is_some (placed-other (objects_of o) j n (λ e. not_out (is_counted (counts_of c) j) counted (ap (is_counted (counts_of c)) (e ∙ sym free) ∙ absent)))
      ∙ h.stored j counted;
}

pub new_stored : (o o' : HeapObjects) (n : Object) (k : ℕ) → k ≡ first_free (objects_of o) → objects_of o' ≡ placed (objects_of o) n → is_some (entry (objects_of o') k) ≡ true
new_stored o o' n k free is = ap (λ (t : Table). is_some (entry t k)) is ∙ ap (λ j. is_some (entry (placed (objects_of o) n) j)) free ∙ ap is_some (placed-first (objects_of o) n)
