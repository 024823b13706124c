-- A dictionary that takes the place of another one gets all that stands there, and keeps as many vacant places as that has places.
use Rattle.std.proofs.Common.{◌≡◌, ◌≢◌, ℕ, ◌+◌, ◌<◌, ◌≤◌, zero, suc, List, [], ◌∷◌, length, Some, Bool, true, false, refl, sym, ap, ◌∙◌, subst, arith, length-set}
use Rattle.std.specs.Prelude.{◌-◌, slice_get, slice_set, get_or}
use Rattle.std.proofs.lemmas.Option.{slice_get-get_or}
use Rattle.st_model.specs.Values.{Value}
use Rattle.st_model.specs.declared.page.PageObject.TheVariants.{NilObject}
use Rattle.st_model.specs.Objects.{Object, nil, is_pointers, with_field}
use Rattle.st_model.specs.Machine.{Head, is_there, ◌>>=◌}
use Rattle.st_model.specs.Steps.{of_page, same_value, fetch_field, store_field}
use Rattle.st_model.specs.Table.{Table, bounded_table}
use Rattle.st_install.specs.Dictionaries.{Ending, Holds, Vacant, Nowhere, count_places, seek, put_method, put_at, refill_unless, refill_from, refill_among, refill}
use Rattle.st_install.proofs.Goes.{object_at, replaced, replaced-it, replaced-other, like_with_field, IsKept, kept_then, kept_replaced, there_kept, Goes, Tells, next_goes, read_goes, answer_goes, tells_page, tells_field, Stores, store_goes, store_runs}
use Rattle.st_install.proofs.GoesSeeking.{at_place, ends_with, ending_among, ending_for, bounded_reads, tells_places, tells_seek, IsWithin, ending_within, NoneVacant, nowhere_full, vacant_among, none_counted, one_fewer}

pub get_set_other : {A : Type 0} (xs : List A) (i j : ℕ) (x : A) → i ≢ j → slice_get (slice_set xs i x) j ≡ slice_get xs j
get_set_other [] i j x d = refl
get_set_other (y ∷ ys) zero zero x d = absurd (d refl)
get_set_other (y ∷ ys) zero (suc j) x d = refl
get_set_other (y ∷ ys) (suc i) zero x d = refl
get_set_other (y ∷ ys) (suc i) (suc j) x d = get_set_other ys i j x (λ e. d (ap (λ n. suc n) e))

-- a search for nil ends at none that is vacant but not sought
with_itself : (k j : ℕ) (b : Bool) (e : Ending) → ends_with k b b e ≡ Vacant j → e ≡ Vacant j
with_itself k j true e h = cc
with_itself k j false e h = h

among_itself : (fs : List Value) (k left j : ℕ) (e : Ending) → ending_among fs nil k left e ≡ Vacant j → e ≡ Vacant j
among_itself fs k zero j e h = h
among_itself fs k (suc left) j e h = among_itself fs (suc k) left j e (with_itself k j _ _ h)

pub not_vacant : (t : Table) (fs : List Value) (selector : Value) (j : ℕ) → ending_for t fs nil selector ≡ Vacant j → ⊥
not_vacant t fs selector j h = nothing j (among_itself fs 0 _ j Nowhere (among_itself fs _ _ j _ h))
  where
    nothing : (j : ℕ) → Nowhere ≡ Vacant j → ⊥
    nothing j e = cc

-- a dictionary with places, of which at least so many are vacant but for these, its tally, and its Array of methods
pub record Refilling (t : Table) (new methods tally : Value) (places done : ℕ) (u : Table) : Type 0 where
  pub dictionary : Object
  pub is : object_at u new ≡ Some dictionary
  pub pointers : is_pointers dictionary.kind ≡ true
  pub size : length dictionary.fields ≡ 2 + places
  pub to_tally : slice_get dictionary.fields 0 ≡ Some tally
  pub to_methods : slice_get dictionary.fields 1 ≡ Some methods
  pub vacant : places ≤ vacant_among dictionary.fields 0 places + done
  pub array : Object
  pub array_is : object_at u methods ≡ Some array
  pub array_pointers : is_pointers array.kind ≡ true
  pub array_size : length array.fields ≡ places
  pub others : (w : Value) → w ≢ new → w ≢ methods → object_at u w ≡ object_at t w
  pub kept : IsKept t u

module _ (head : Head) (t : Table) (new methods tally : Value) (places : ℕ) (apart : new ≢ methods) where
  -- a place that is passed
  unfoldable pub passes : (done : ℕ) (u : Table) → Refilling t new methods tally places done u → Refilling t new methods tally places (suc done) u
  passes done u h = record {
    dictionary = h.dictionary;
    is = h.is;
    pointers = h.pointers;
    size = h.size;
    to_tally = h.to_tally;
    to_methods = h.to_methods;
    vacant = let l = h.vacant in omega (arith, l);
    array = h.array;
    array_is = h.array_is;
    array_pointers = h.array_pointers;
    array_size = h.array_size;
    others = h.others;
    kept = h.kept;
  }

  module _ (done : ℕ) (u : Table) (h : Refilling t new methods tally places done u) (k : ℕ) (x y : Value) where
    pub array_there : object_at (replaced u new (with_field h.dictionary (2 + k) x)) methods ≡ Some h.array
    array_there = replaced-other u new methods (with_field h.dictionary (2 + k) x) (λ e. apart (sym e)) ∙ h.array_is

    pub kept_between : IsKept u (replaced u new (with_field h.dictionary (2 + k) x))
    kept_between = kept_replaced u new h.dictionary (with_field h.dictionary (2 + k) x) h.is (like_with_field h.dictionary (2 + k) x)

    pub kept_behind : IsKept u (replaced (replaced u new (with_field h.dictionary (2 + k) x)) methods (with_field h.array k y))
    kept_behind = kept_then u _ _ kept_between (kept_replaced _ methods h.array (with_field h.array k y) array_there (like_with_field h.array k y))

    unfoldable pub put_leaves : Refilling t new methods tally places (suc done) (replaced (replaced u new (with_field h.dictionary (2 + k) x)) methods (with_field h.array k y))
    put_leaves = record {
      dictionary = with_field h.dictionary (2 + k) x;
      is = replaced-other _ methods new (with_field h.array k y) apart ∙ replaced-it u new (with_field h.dictionary (2 + k) x) h.dictionary h.is;
      pointers = h.pointers;
      size = length-set h.dictionary.fields (2 + k) x ∙ h.size;
      to_tally = get_set_other h.dictionary.fields (2 + k) 0 x (omega arith) ∙ h.to_tally;
      to_methods = get_set_other h.dictionary.fields (2 + k) 1 x (omega arith) ∙ h.to_methods;
      vacant = let l = h.vacant in let m = one_fewer h.dictionary.fields k 0 places x in omega (arith, l, m);
      array = with_field h.array k y;
      array_is = replaced-it _ methods (with_field h.array k y) h.array array_there;
      array_pointers = h.array_pointers;
      array_size = length-set h.array.fields k y ∙ h.array_size;
      others = λ w d e. replaced-other _ methods w (with_field h.array k y) e ∙ (replaced-other u new w (with_field h.dictionary (2 + k) x) d ∙ h.others w d e);
      kept = kept_then t u _ h.kept kept_behind;
    }

    -- the dictionary and its Array with them
    pub put_exactly : k < places → is_there bounded_table u x ≡ true → is_there bounded_table u y ≡ true
        → Goes head (put_method bounded_table new methods k x y) u (λ a w. w ≡ replaced (replaced u new (with_field h.dictionary (2 + k) x)) methods (with_field h.array k y))
    unfolding put_method
    put_exactly l p there =
        let n = h.size in
        let m = h.array_size in
        next_goes head u (λ a w. Stores new h.dictionary (with_field h.dictionary (2 + k) x) u w) _ _ _
        (store_goes u new h.dictionary head h.is (2 + k) x h.pointers (omega (arith, n, l)) p)
        (λ a w e. subst (λ z. Goes head (store_field bounded_table methods k y) z (λ b z. z ≡ replaced (replaced u new (with_field h.dictionary (2 + k) x)) methods (with_field h.array k y))) (sym e.is)
        (record {
          value = tt;
          next = replaced (replaced u new (with_field h.dictionary (2 + k) x)) methods (with_field h.array k y);
          goes = λ s same. store_runs _ methods h.array s array_there k y h.array_pointers (omega (arith, m, l)) (there_kept u _ y kept_between there);
          leaves = refl;
        }))

    pub put_goes : k < places → is_there bounded_table u x ≡ true → is_there bounded_table u y ≡ true
        → Goes head (put_method bounded_table new methods k x y) u (λ a w. Refilling t new methods tally places (suc done) w)
    put_goes l p there =
        let g = put_exactly l p there in
        record { value = g.value; next = g.next; goes = g.goes; leaves = subst (λ w. Refilling t new methods tally places (suc done) w) (sym g.leaves) put_leaves }

  module _ (done : ℕ) (u : Table) (h : Refilling t new methods tally places done u) (x y : Value) (p : is_there bounded_table u x ≡ true) (q : is_there bounded_table u y ≡ true) where
    pub put_at_goes : (e : Ending) → IsWithin places e → e ≢ Nowhere → ((j : ℕ) → e ≢ Vacant j)
        → Goes head (put_at bounded_table new x y e) u (λ a w. Refilling t new methods tally places (suc done) w)
    unfolding put_at
    put_at_goes (Holds k) l m n = read_goes head u _ (fetch_field bounded_table new 1) _ methods (tells_field u new h.dictionary h.is h.pointers 1 methods h.to_methods) (put_goes done u h k x y l p q)
    put_at_goes (Vacant k) l m n = absurd (n k refl)
    put_at_goes Nowhere l m n = absurd (m refl)

    -- the place for a selector is found, as some place is vacant
    pub seek_and_put : done < places → Goes head (seek bounded_table new nil x >>= (λ e. put_at bounded_table new x y e)) u (λ a w. Refilling t new methods tally places (suc done) w)
    seek_and_put l =
        let n = h.size in
        read_goes head u _ (seek bounded_table new nil x) _ (ending_for u h.dictionary.fields nil x) (tells_seek bounded_table bounded_reads u new h.dictionary h.is h.pointers nil x (omega (arith, n)))
        (put_at_goes (ending_for u h.dictionary.fields nil x)
        (subst (λ m. IsWithin m (ending_for u h.dictionary.fields nil x)) (omega (arith, n)) (ending_within u h.dictionary.fields nil x))
        (λ e. full (subst (λ m. NoneVacant h.dictionary.fields 0 m) (omega (arith, n)) (nowhere_full u h.dictionary.fields nil x e)))
        (λ j e. not_vacant u h.dictionary.fields x j e))
      where
        full : NoneVacant h.dictionary.fields 0 places → ⊥
        full f = let a = none_counted h.dictionary.fields 0 places f in let b = h.vacant in omega (arith, a, b, l)

  -- the dictionary that was there: its places and their methods
  module _ (old olds : Value) (o a : Object) (e : object_at t old ≡ Some o) (p : is_pointers o.kind ≡ true) (to_olds : slice_get o.fields 1 ≡ Some olds)
      (f : object_at t olds ≡ Some a) (q : is_pointers a.kind ≡ true) (enough : length o.fields - 2 ≤ length a.fields)
      (old_new : old ≢ new) (old_methods : old ≢ methods) (olds_new : olds ≢ new) (olds_methods : olds ≢ methods)
      (old_there : (i : ℕ) (x : Value) → slice_get o.fields i ≡ Some x → is_there bounded_table t x ≡ true)
      (olds_there : (i : ℕ) (x : Value) → slice_get a.fields i ≡ Some x → is_there bounded_table t x ≡ true) where
    module _ (u : Table) (k : ℕ) (h : Refilling t new methods tally places k u) where
      tells_old : (i : ℕ) (x : Value) → slice_get o.fields i ≡ Some x → Tells (fetch_field bounded_table old i) u x
      tells_old i x g = tells_field u old o (h.others old old_new old_methods ∙ e) p i x g

      tells_olds : (i : ℕ) (x : Value) → slice_get a.fields i ≡ Some x → Tells (fetch_field bounded_table olds i) u x
      tells_olds i x g = tells_field u olds a (h.others olds olds_new olds_methods ∙ f) q i x g

      unless_goes : (x : Value) (b : Bool) → is_there bounded_table u x ≡ true → k < length o.fields - 2 → k < places
          → Goes head (refill_unless bounded_table old new k x b) u (λ c w. Refilling t new methods tally places (suc k) w)
      unfolding refill_unless
      unless_goes x true r l m = answer_goes head u _ tt (passes k u h)
      unless_goes x false r l m =
          let n : k < length a.fields = omega (arith, l, enough) in
          let g = slice_get-get_or a.fields k nil n in
          read_goes head u _ (fetch_field bounded_table old 1) _ olds (tells_old 1 olds to_olds)
          (read_goes head u _ (fetch_field bounded_table olds k) _ _ (tells_olds k _ g)
          (read_goes head u _ (of_page bounded_table NilObject) _ nil (tells_page u NilObject)
          (seek_and_put k u h x _ r (there_kept t u (get_or a.fields k nil) h.kept (olds_there k _ g)) m)))

      pub refill_place : k < length o.fields - 2 → k < places → Goes head (refill_from bounded_table old new k) u (λ c w. Refilling t new methods tally places (suc k) w)
      unfolding refill_from
      refill_place l m =
          let g = slice_get-get_or o.fields (2 + k) nil (omega (arith, l)) in
          read_goes head u _ (fetch_field bounded_table old (2 + k)) _ (at_place o.fields k) (tells_old (2 + k) (at_place o.fields k) g)
          (read_goes head u _ (of_page bounded_table NilObject) _ nil (tells_page u NilObject)
          (unless_goes (at_place o.fields k) (same_value (at_place o.fields k) nil) (there_kept t u (at_place o.fields k) h.kept (old_there (2 + k) _ g)) l m))

    refill_places : (u : Table) (k left : ℕ) → Refilling t new methods tally places k u → k + left ≤ length o.fields - 2 → k + left ≤ places
        → Goes head (refill_among bounded_table old new k left) u (λ c w. Refilling t new methods tally places (k + left) w)
    unfolding refill_among
    refill_places u k zero h l m = answer_goes head u _ tt (subst (λ n. Refilling t new methods tally places n u) (omega arith) h)
    refill_places u k (suc left) h l m =
        next_goes head u (λ c w. Refilling t new methods tally places (suc k) w) _ _ _ (refill_place u k h (omega (arith, l)) (omega (arith, m)))
        (λ c w g. subst (λ n. Goes head (refill_among bounded_table old new (suc k) left) w (λ b z. Refilling t new methods tally places n z)) (omega arith)
        (refill_places w (suc k) left g (omega (arith, l)) (omega (arith, m))))

    pub refill_goes : Refilling t new methods tally places 0 t → length o.fields - 2 ≤ places
        → Goes head (refill bounded_table old new) t (λ c w. Refilling t new methods tally places (length o.fields - 2) w)
    unfolding refill
    refill_goes h l =
        read_goes head t _ (count_places bounded_table old) _ (length o.fields - 2) (tells_places bounded_table bounded_reads t old o e p)
        (subst (λ n. Goes head (refill_among bounded_table old new 0 (length o.fields - 2)) t (λ c w. Refilling t new methods tally places n w)) (omega arith)
        (refill_places t 0 (length o.fields - 2) h (omega arith) (omega (arith, l))))
