-- A dictionary that takes the place of an orderly one finds each selector with the method that it had, and no other.
use Rattle.std.proofs.Common.{◌≡◌, ◌≢◌, ℕ, ◌+◌, ◌<◌, ◌≤◌, zero, suc, List, [], ◌∷◌, length, Option, Some, None, Bool, true, false, refl, sym, ap, ◌∙◌, subst, arith, ◌⊎◌, inl, inr, is_some}
use Rattle.std.specs.Prelude.{◌-◌, slice_get, slice_set, get_or}
use Rattle.std.proofs.lemmas.Option.{slice_get-get_or}
use Rattle.st_model.specs.Values.{Value, Small, Ref}
use Rattle.st_model.specs.declared.page.PageObject.TheVariants.{NilObject}
use Rattle.st_model.specs.Objects.{Object, nil, is_pointers}
use Rattle.st_model.specs.Machine.{Head, is_there, ◌>>=◌}
use Rattle.st_model.specs.Steps.{of_page, same_value, fetch_field}
use Rattle.st_model.specs.Lookup.{pointer_if}
use Rattle.st_model.specs.Table.{Table, entry, bounded_table}
use Rattle.st_install.specs.Dictionaries.{Ending, Holds, Vacant, Nowhere, count_places, seek, put_method, put_at, refill_unless, refill_from, refill_among, refill}
use Rattle.st_install.proofs.Goes.{object_at, IsKept, there_kept, Goes, Tells, next_goes, read_goes, answer_goes, tells_page, tells_field}
use Rattle.st_install.proofs.GoesSeeking.{at_place, half_of, ending_for, bounded_reads, tells_places, tells_seek, IsWithin, ending_within, NoneVacant, nowhere_full, none_counted}
use Rattle.st_install.proofs.GoesRefilling.{get_set_other, not_vacant, Refilling, passes, put_exactly, put_leaves}
use Rattle.st_install.proofs.GainsPlaces.{same_holds, IsAbsent, still_absent, ending_by, keeps, moves, held}
use Rattle.st_model.proofs.SameValues.{other_value, value_same}

pub get_set_same : {A : Type 0} (xs : List A) (i : ℕ) (x : A) → i < length xs → slice_get (slice_set xs i x) i ≡ Some x
get_set_same [] i x l = absurd (omega (arith, l))
get_set_same (y ∷ xs) zero x l = refl
get_set_same (y ∷ xs) (suc i) x l = get_set_same xs i x (omega (arith, l))

-- a selector, from half of whose pointer the search starts, is found with a method
pub record Finds (half : ℕ) (fs ms : List Value) (x m : Value) : Type 0 where
  pub place : ℕ
  pub holds : ending_by half fs x ≡ Holds place
  pub method : slice_get ms place ≡ Some m

-- the search finds each selector at its own place
abbrev pub FindsAll : Table → List Value → Type 0
FindsAll t fs = (j : ℕ) → at_place fs j ≢ nil → ending_by (half_of t (at_place fs j)) fs (at_place fs j) ≡ Holds j

-- of some first places each selector is found with its method, and none that stands elsewhere
pub record Moved (t : Table) (olds old_methods : List Value) (k : ℕ) (fs ms : List Value) : Type 0 where
  pub moved : (j : ℕ) → j < k → at_place olds j ≢ nil → (m : Value) → slice_get old_methods j ≡ Some m
      → Finds (half_of t (at_place olds j)) fs ms (at_place olds j) m
  pub only : (x : Value) → x ≢ nil → ((j : ℕ) → j < k → at_place olds j ≢ x) → IsAbsent fs x

last_or_before : (j k : ℕ) → j < suc k → (k ≡ j) ⊎ (j < k)
last_or_before j k l = grind arith

module _ (t : Table) (olds old_methods : List Value) (all : FindsAll t olds) where
  apart_places : (j k : ℕ) → j < k → at_place olds k ≢ nil → at_place olds j ≢ at_place olds k
  apart_places j k l d q =
      let a : ending_by (half_of t (at_place olds j)) olds (at_place olds j) ≡ Holds j = all j (λ z. d (sym q ∙ z)) in
      let b : ending_by (half_of t (at_place olds j)) olds (at_place olds j) ≡ Holds k = subst (λ v. ending_by (half_of t v) olds v ≡ Holds k) (sym q) (all k d) in
      let e : j ≡ k = same_holds j k (sym a ∙ b) in
      omega (arith, e, l)

  pub none_moved : (fs ms : List Value) → ((j : ℕ) → at_place fs j ≡ nil) → Moved t olds old_methods 0 fs ms
  none_moved fs ms e = record {
    moved = λ j l. absurd (omega (arith, l));
    only = λ x d h j. ap (λ v. same_value v x) (e j) ∙ nil_other x d;
  }
    where
      nil_other : (x : Value) → x ≢ nil → same_value nil x ≡ false
      nil_other x d = by_case (same_value nil x) refl
        where
          by_case : (b : Bool) → same_value nil x ≡ b → same_value nil x ≡ false
          by_case true e = absurd (d (sym (value_same nil x e)))
          by_case false e = e

  pub nil_moved : (k : ℕ) (fs ms : List Value) → at_place olds k ≡ nil → Moved t olds old_methods k fs ms → Moved t olds old_methods (suc k) fs ms
  nil_moved k fs ms z h = record {
    moved = λ j l d m e. elim (last_or_before j k l) [
      | inl q ↦ absurd (d (ap (λ n. at_place olds n) (sym q) ∙ z))
      | inr q ↦ h.moved j q d m e
    ];
    only = λ x d f. h.only x d (λ j l. f j (omega (arith, l)));
  }

  module _ (k i : ℕ) (fs ms : List Value) (m : Value) (h : Moved t olds old_methods k fs ms) (d : at_place olds k ≢ nil) (e : slice_get old_methods k ≡ Some m)
      (l : 2 + i < length fs) (n : i < length ms) (seek : ending_by (half_of t (at_place olds k)) fs nil ≡ Holds i) where
    vacant : at_place fs i ≡ nil
    vacant = held fs nil (half_of t (at_place olds k)) i seek

    not_there : IsAbsent fs (at_place olds k)
    not_there = h.only (at_place olds k) d (λ j b. apart_places j k b d)

    stays_found : (j : ℕ) → at_place olds j ≢ nil → (y : Value) → Finds (half_of t (at_place olds j)) fs ms (at_place olds j) y
        → Finds (half_of t (at_place olds j)) (slice_set fs (2 + i) (at_place olds k)) (slice_set ms i m) (at_place olds j) y
    stays_found j c y f = record {
      place = f.place;
      holds = keeps fs i (at_place olds k) l (half_of t (at_place olds j)) (at_place olds j) f.place vacant c f.holds;
      method = get_set_other ms i f.place m (λ q. c (sym (held fs (at_place olds j) (half_of t (at_place olds j)) f.place f.holds) ∙ (ap (λ n. at_place fs n) (sym q) ∙ vacant))) ∙ f.method;
    }

    pub one_moved : Moved t olds old_methods (suc k) (slice_set fs (2 + i) (at_place olds k)) (slice_set ms i m)
    one_moved = record {
      moved = λ j b c y g. elim (last_or_before j k b) [
        | inl q ↦ subst (λ r. (y : Value) → slice_get old_methods r ≡ Some y → Finds (half_of t (at_place olds r)) (slice_set fs (2 + i) (at_place olds k)) (slice_set ms i m) (at_place olds r) y) q here y g
        | inr q ↦ stays_found j c y (h.moved j q c y g)
      ];
      only = λ x c f. still_absent fs i (at_place olds k) l x (λ q. f k (omega arith) (sym q)) (h.only x c (λ j b. f j (omega (arith, b))));
    }
      where
        same_method : (y : Value) → slice_get old_methods k ≡ Some y → m ≡ y
        same_method y g = some_same (sym e ∙ g)
          where
            some_same : {a b : Value} → Some a ≡ Some b → a ≡ b
            some_same q = cc

        here : (y : Value) → slice_get old_methods k ≡ Some y → Finds (half_of t (at_place olds k)) (slice_set fs (2 + i) (at_place olds k)) (slice_set ms i m) (at_place olds k) y
        here y g = record {
          place = i;
          holds = moves fs i (at_place olds k) l (half_of t (at_place olds k)) not_there seek;
          method = get_set_same ms i m n ∙ ap (λ v. Some v) (same_method y g);
        }

-- half of a pointer stays
some_pointer : (t u : Table) (n : ℕ) (a b : Option Object) → is_some a ≡ true → is_some b ≡ true → pointer_if bounded_table u n b ≡ pointer_if bounded_table t n a
some_pointer t u n None b e f = cc
some_pointer t u n (Some o) None e f = cc
some_pointer t u n (Some o) (Some p) e f = refl

pub half_kept : (t u : Table) (x : Value) → IsKept t u → is_there bounded_table t x ≡ true → half_of u x ≡ half_of t x
half_kept t u (Small n) k e = refl
half_kept t u (Ref n) k e = some_pointer t u n (entry t n) (entry u n) e (there_kept t u (Ref n) k e)

-- a dictionary that is refilled, with what was moved
pub record Moving (t : Table) (new methods tally : Value) (places k : ℕ) (olds old_methods : List Value) (u : Table) : Type 0 where
  pub refilling : Refilling t new methods tally places k u
  pub moved : Moved t olds old_methods k refilling.dictionary.fields refilling.array.fields

module _ (head : Head) (t : Table) (new methods tally : Value) (places : ℕ) (apart : new ≢ methods) (old olds : Value) (o a : Object) (e : object_at t old ≡ Some o)
    (p : is_pointers o.kind ≡ true) (to_olds : slice_get o.fields 1 ≡ Some olds) (f : object_at t olds ≡ Some a) (q : is_pointers a.kind ≡ true) (enough : length o.fields - 2 ≤ length a.fields)
    (old_new : old ≢ new) (old_methods : old ≢ methods) (olds_new : olds ≢ new) (olds_methods : olds ≢ methods)
    (old_there : (i : ℕ) (x : Value) → slice_get o.fields i ≡ Some x → is_there bounded_table t x ≡ true)
    (olds_there : (i : ℕ) (x : Value) → slice_get a.fields i ≡ Some x → is_there bounded_table t x ≡ true) (all : FindsAll t o.fields) where
  module _ (u : Table) (k : ℕ) (h : Moving t new methods tally places k o.fields a.fields u) where
    abbrev Next : Table → Type 0
    Next w = Moving t new methods tally places (suc k) o.fields a.fields w

    module _ (x y : Value) (is_x : x ≡ at_place o.fields k) (d : x ≢ nil) (is_y : slice_get a.fields k ≡ Some y) (x_there : is_there bounded_table t x ≡ true) (y_there : is_there bounded_table t y ≡ true) where
      put_moves : (i : ℕ) → ending_for u h.refilling.dictionary.fields nil x ≡ Holds i → i < places → Goes head (put_method bounded_table new methods i x y) u (λ c w. Next w)
      unfolding put_leaves
      put_moves i r l =
          let g = put_exactly head t new methods tally places apart k u h.refilling i x y l (there_kept t u x h.refilling.kept x_there) (there_kept t u y h.refilling.kept y_there) in
          let n = h.refilling.size in
          let m = h.refilling.array_size in
          let half : half_of u x ≡ half_of t (at_place o.fields k) = half_kept t u x h.refilling.kept x_there ∙ ap (λ v. half_of t v) is_x in
          let found : ending_by (half_of t (at_place o.fields k)) h.refilling.dictionary.fields nil ≡ Holds i = ap (λ b. ending_by b h.refilling.dictionary.fields nil) (sym half) ∙ r in
          let more = one_moved t o.fields a.fields all k i h.refilling.dictionary.fields h.refilling.array.fields y h.moved (λ z. d (is_x ∙ z)) is_y (omega (arith, n, l)) (omega (arith, m, l)) found in
          record {
            value = g.value;
            next = g.next;
            goes = g.goes;
            leaves = subst Next (sym g.leaves) (record {
              refilling = put_leaves head t new methods tally places apart k u h.refilling i x y;
              moved = subst (λ v. Moved t o.fields a.fields (suc k) (slice_set h.refilling.dictionary.fields (2 + i) v) (slice_set h.refilling.array.fields i y)) (sym is_x) more;
            });
          }

      at_moves : (end : Ending) → ending_for u h.refilling.dictionary.fields nil x ≡ end → IsWithin places end → end ≢ Nowhere → ((j : ℕ) → end ≢ Vacant j)
          → Goes head (put_at bounded_table new x y end) u (λ c w. Next w)
      unfolding put_at
      at_moves (Holds i) r l m n =
          read_goes head u _ (fetch_field bounded_table new 1) _ methods (tells_field u new h.refilling.dictionary h.refilling.is h.refilling.pointers 1 methods h.refilling.to_methods) (put_moves i r l)
      at_moves (Vacant i) r l m n = absurd (n i refl)
      at_moves Nowhere r l m n = absurd (m refl)

      seek_moves : k < places → Goes head (seek bounded_table new nil x >>= (λ end. put_at bounded_table new x y end)) u (λ c w. Next w)
      seek_moves l =
          let n = h.refilling.size in
          read_goes head u _ (seek bounded_table new nil x) _ (ending_for u h.refilling.dictionary.fields nil x)
          (tells_seek bounded_table bounded_reads u new h.refilling.dictionary h.refilling.is h.refilling.pointers nil x (omega (arith, n)))
          (at_moves (ending_for u h.refilling.dictionary.fields nil x) refl
          (subst (λ m. IsWithin m (ending_for u h.refilling.dictionary.fields nil x)) (omega (arith, n)) (ending_within u h.refilling.dictionary.fields nil x))
          (λ z. full (subst (λ m. NoneVacant h.refilling.dictionary.fields 0 m) (omega (arith, n)) (nowhere_full u h.refilling.dictionary.fields nil x z)))
          (λ j z. not_vacant u h.refilling.dictionary.fields x j z))
        where
          full : NoneVacant h.refilling.dictionary.fields 0 places → ⊥
          full z = let b = none_counted h.refilling.dictionary.fields 0 places z in let c = h.refilling.vacant in omega (arith, b, c, l)

    tells_old : (i : ℕ) (x : Value) → slice_get o.fields i ≡ Some x → Tells (fetch_field bounded_table old i) u x
    tells_old i x g = tells_field u old o (h.refilling.others old old_new old_methods ∙ e) p i x g

    tells_olds : (i : ℕ) (x : Value) → slice_get a.fields i ≡ Some x → Tells (fetch_field bounded_table olds i) u x
    tells_olds i x g = tells_field u olds a (h.refilling.others olds olds_new olds_methods ∙ f) q i x g

    unless_moves : (x : Value) (b : Bool) → same_value x nil ≡ b → x ≡ at_place o.fields k → is_there bounded_table t x ≡ true → k < length o.fields - 2 → k < places
        → Goes head (refill_unless bounded_table old new k x b) u (λ c w. Next w)
    unfolding refill_unless passes
    unless_moves x true r s th l m =
        answer_goes head u _ tt (record { refilling = passes head t new methods tally places apart k u h.refilling; moved = nil_moved t o.fields a.fields all k _ _ (sym s ∙ value_same x nil r) h.moved })
    unless_moves x false r s th l m =
        let n : k < length a.fields = omega (arith, l, enough) in
        let g = slice_get-get_or a.fields k nil n in
        read_goes head u _ (fetch_field bounded_table old 1) _ olds (tells_old 1 olds to_olds)
        (read_goes head u _ (fetch_field bounded_table olds k) _ (get_or a.fields k nil) (tells_olds k (get_or a.fields k nil) g)
        (read_goes head u _ (of_page bounded_table NilObject) _ nil (tells_page u NilObject)
        (seek_moves x (get_or a.fields k nil) s (other_value x nil r) g th (olds_there k (get_or a.fields k nil) g) m)))

    place_moves : k < length o.fields - 2 → k < places → Goes head (refill_from bounded_table old new k) u (λ c w. Next w)
    unfolding refill_from
    place_moves l m =
        let g = slice_get-get_or o.fields (2 + k) nil (omega (arith, l)) in
        read_goes head u _ (fetch_field bounded_table old (2 + k)) _ (at_place o.fields k) (tells_old (2 + k) (at_place o.fields k) g)
        (read_goes head u _ (of_page bounded_table NilObject) _ nil (tells_page u NilObject)
        (unless_moves (at_place o.fields k) (same_value (at_place o.fields k) nil) refl refl (old_there (2 + k) (at_place o.fields k) g) l m))

  places_move : (u : Table) (k left : ℕ) → Moving t new methods tally places k o.fields a.fields u → k + left ≤ length o.fields - 2 → k + left ≤ places
      → Goes head (refill_among bounded_table old new k left) u (λ c w. Moving t new methods tally places (k + left) o.fields a.fields w)
  unfolding refill_among
  places_move u k zero h l m = answer_goes head u _ tt (subst (λ n. Moving t new methods tally places n o.fields a.fields u) (omega arith) h)
  places_move u k (suc left) h l m =
      next_goes head u (λ c w. Moving t new methods tally places (suc k) o.fields a.fields w) _ _ _ (place_moves u k h (omega (arith, l)) (omega (arith, m)))
      (λ c w g. subst (λ n. Goes head (refill_among bounded_table old new (suc k) left) w (λ b z. Moving t new methods tally places n o.fields a.fields z)) (omega arith)
      (places_move w (suc k) left g (omega (arith, l)) (omega (arith, m))))

  pub refill_moves : Moving t new methods tally places 0 o.fields a.fields t → length o.fields - 2 ≤ places
      → Goes head (refill bounded_table old new) t (λ c w. Moving t new methods tally places (length o.fields - 2) o.fields a.fields w)
  unfolding refill
  refill_moves h l =
      read_goes head t _ (count_places bounded_table old) _ (length o.fields - 2) (tells_places bounded_table bounded_reads t old o e p)
      (subst (λ n. Goes head (refill_among bounded_table old new 0 (length o.fields - 2)) t (λ c w. Moving t new methods tally places n o.fields a.fields w)) (omega arith)
      (places_move t 0 (length o.fields - 2) h (omega arith) (omega (arith, l))))
