-- What the stores of a plan change, and what a selector and its method that are added change for a search.
use Rattle.std.proofs.Common.{◌≡◌, ◌≢◌, ℕ, ◌+◌, ◌<◌, ◌≤◌, List, [], ◌∷◌, length, Option, Some, None, true, refl, sym, ap, ◌∙◌, subst, arith, length-set}
use Rattle.std.specs.Prelude.{◌-◌, slice_get, slice_set}
use Rattle.std.proofs.lemmas.List.{get_or-set_other}
use Rattle.st_model.specs.Values.{Value}
use Rattle.st_model.specs.Objects.{Object, nil, is_pointers, with_field}
use Rattle.st_model.specs.Machine.{Head, is_there}
use Rattle.st_model.specs.Steps.{store_field, same_value}
use Rattle.st_model.specs.Table.{Table, bounded_table}
use Rattle.st_install.specs.Plans.{FieldStore}
use Rattle.st_install.specs.Dictionaries.{Ending, Holds, Vacant, Nowhere, put_method, raised_tally}
use Rattle.st_install.specs.Installing.{part_value, store_all, Placing, adopt, add_at}
use Rattle.st_install.proofs.Goes.{object_at, replaced, replaced-it, replaced-other, like_with_field, IsKept, all_kept, kept_then, kept_replaced, there_kept, Goes, next_goes, answer_goes, store_goes}
use Rattle.st_install.proofs.GoesSeeking.{at_place, IsWithin}
use Rattle.st_install.proofs.GoesStoring.{CanStore, can_store_kept, raised_there}
use Rattle.st_install.proofs.GoesRefilling.{get_set_other}
use Rattle.st_install.proofs.GainsPlaces.{IsAbsent, still_absent, ending_by, keeps, adds, held, empty, by_same}
use Rattle.st_install.proofs.GainsRefilling.{get_set_same, Finds}

-- A FIELD

-- one object has changed in one field
pub record Replaces (t : Table) (v : Value) (o : Object) (i : ℕ) (x : Value) (u : Table) : Type 0 where
  pub is : u ≡ replaced t v (with_field o i x)

pub store_exactly : (head : Head) (t : Table) (v : Value) (o : Object) (i : ℕ) (x : Value) → object_at t v ≡ Some o → is_pointers o.kind ≡ true → i < length o.fields → is_there bounded_table t x ≡ true
    → Goes head (store_field bounded_table v i x) t (λ a u. Replaces t v o i x u)
store_exactly head t v o i x e p l k =
    let g = store_goes t v o head e i x p l k in
    record { value = g.value; next = g.next; goes = g.goes; leaves = record { is = g.leaves.is } }

module _ (t : Table) (v : Value) (o : Object) (i : ℕ) (x : Value) (u : Table) (e : object_at t v ≡ Some o) (r : Replaces t v o i x u) where
  pub replaces_kept : IsKept t u
  replaces_kept = subst (λ w. IsKept t w) (sym r.is) (kept_replaced t v o (with_field o i x) e (like_with_field o i x))

  pub replaces_it : object_at u v ≡ Some (with_field o i x)
  replaces_it = ap (λ w. object_at w v) r.is ∙ replaced-it t v (with_field o i x) o e

  pub replaces_other : (w : Value) → w ≢ v → object_at u w ≡ object_at t w
  replaces_other w d = ap (λ y. object_at y w) r.is ∙ replaced-other t v w (with_field o i x) d

-- THE SYMBOL TABLE

-- none of the stores goes into it
abbrev pub IsNoTarget : List Value → List FieldStore → Value → Type 0
IsNoTarget made [] w = Unit {0}
IsNoTarget made (x ∷ xs) w = (w ≢ part_value nil made x.object) × IsNoTarget made xs w

pub record Spares (made : List Value) (xs : List FieldStore) (t u : Table) : Type 0 where
  pub kept : IsKept t u
  pub others : (w : Value) → IsNoTarget made xs w → object_at u w ≡ object_at t w

pub store_all_spares : (head : Head) (t : Table) (made : List Value) (xs : List FieldStore) → CanStore t made xs → Goes head (store_all bounded_table nil made xs) t (λ a u. Spares made xs t u)
unfolding store_all
store_all_spares head t made [] h = answer_goes head t _ tt (record { kept = all_kept t; others = λ w z. refl })
store_all_spares head t made (x ∷ xs) h =
    let f = h.0 in
    next_goes head t _ _ _ _
    (store_exactly head t (part_value nil made x.object) f.object x.field (part_value nil made x.value) f.is f.pointers (let l = f.enough in omega (arith, l)) h.1)
    (λ a u r. more u r (store_all_spares head u made xs (can_store_kept t u made xs (replaces_kept t _ f.object x.field _ u f.is r) h.2)))
  where
    more : (u : Table) → Replaces t (part_value nil made x.object) h.0.object x.field (part_value nil made x.value) u → Goes head (store_all bounded_table nil made xs) u (λ a w. Spares made xs u w)
        → Goes head (store_all bounded_table nil made xs) u (λ a w. Spares made (x ∷ xs) t w)
    more u r g = record {
      value = g.value;
      next = g.next;
      goes = g.goes;
      leaves = record {
        kept = kept_then t u g.next (replaces_kept t (part_value nil made x.object) h.0.object x.field (part_value nil made x.value) u h.0.is r) g.leaves.kept;
        others = λ w d. g.leaves.others w d.1 ∙ replaces_other t (part_value nil made x.object) h.0.object x.field (part_value nil made x.value) u h.0.is r w d.0;
      };
    }

-- THE CLASS

abbrev pub AdoptsAs : Table → Table → Value → Object → Value → Option ℕ → Type 0
AdoptsAs t u class o d None = u ≡ t
AdoptsAs t u class o d (Some k) = Replaces t class o 1 d u

pub adopt_exactly : (head : Head) (t : Table) (class d : Value) (o : Object) (grown : Option ℕ) → object_at t class ≡ Some o → is_pointers o.kind ≡ true → 1 < length o.fields → is_there bounded_table t d ≡ true
    → Goes head (adopt bounded_table class d grown) t (λ a u. AdoptsAs t u class o d grown)
unfolding adopt
adopt_exactly head t class d o None e p l k = answer_goes head t _ tt refl
adopt_exactly head t class d o (Some n) e p l k = store_exactly head t class o 1 d e p l k

-- ADDING

-- what is added is found, and each other selector is where it was
pub record Adds (fs ms : List Value) (x m : Value) (half : ℕ) (gs ns : List Value) : Type 0 where
  pub new : Finds half gs ns x m
  pub same : (h : ℕ) (y z : Value) → y ≢ nil → y ≢ x → Finds h fs ms y z → Finds h gs ns y z
  pub absent : (y : Value) → y ≢ x → IsAbsent fs y → IsAbsent gs y

module _ (fs ms : List Value) (x m : Value) (half k : ℕ) (l : 2 + k < length fs) (n : k < length ms) where
  pub replaces_method : ending_by half fs x ≡ Holds k → Adds fs ms x m half fs (slice_set ms k m)
  replaces_method e = record {
    new = record { place = k; holds = e; method = get_set_same ms k m n };
    same = λ h y z d c f. record {
      place = f.place;
      holds = f.holds;
      method = get_set_other ms k f.place m (λ q. c (sym (held fs y h f.place f.holds) ∙ (ap (λ j. at_place fs j) (sym q) ∙ held fs x half k e))) ∙ f.method;
    };
    absent = λ y d a. a;
  }

  pub adds_method : (tally : Value) → ending_by half fs x ≡ Vacant k → Adds fs ms x m half (slice_set (slice_set fs (2 + k) x) 0 tally) (slice_set ms k m)
  adds_method tally e = record {
    new = record { place = k; holds = by_tally half x ∙ adds fs k x l half e; method = get_set_same ms k m n };
    same = λ h y z d c f. record {
      place = f.place;
      holds = by_tally h y ∙ keeps fs k x l h y f.place vacant d f.holds;
      method = get_set_other ms k f.place m (λ q. d (sym (held fs y h f.place f.holds) ∙ (ap (λ j. at_place fs j) (sym q) ∙ vacant))) ∙ f.method;
    };
    absent = λ y d a j. ap (λ v. same_value v y) (tally_apart j) ∙ still_absent fs k x l y d a j;
  }
    where
      vacant : at_place fs k ≡ nil
      vacant = empty fs x half k e

      tally_apart : (j : ℕ) → at_place (slice_set (slice_set fs (2 + k) x) 0 tally) j ≡ at_place (slice_set fs (2 + k) x) j
      tally_apart j = get_or-set_other (slice_set fs (2 + k) x) 0 (2 + j) tally nil (omega arith)

      by_tally : (h : ℕ) (y : Value) → ending_by h (slice_set (slice_set fs (2 + k) x) 0 tally) y ≡ ending_by h (slice_set fs (2 + k) x) y
      by_tally h y = by_same (slice_set fs (2 + k) x) (slice_set (slice_set fs (2 + k) x) 0 tally) y h (length-set (slice_set fs (2 + k) x) 0 tally) tally_apart

-- a dictionary and its Array to which that was done
pub record Added (t : Table) (d ms x m : Value) (o a : Object) (half : ℕ) (u : Table) : Type 0 where
  pub dictionary : Object
  pub is : object_at u d ≡ Some dictionary
  pub pointers : is_pointers dictionary.kind ≡ true
  pub size : length dictionary.fields ≡ length o.fields
  pub to_methods : slice_get dictionary.fields 1 ≡ slice_get o.fields 1
  pub array : Object
  pub array_is : object_at u ms ≡ Some array
  pub array_pointers : is_pointers array.kind ≡ true
  pub adds : Adds o.fields a.fields x m half dictionary.fields array.fields
  pub others : (w : Value) → w ≢ d → w ≢ ms → object_at u w ≡ object_at t w
  pub kept : IsKept t u

module _ (head : Head) (t : Table) (p : Placing) (x m : Value) (o a : Object) (half : ℕ) (e : object_at t p.dictionary ≡ Some o) (f : is_pointers o.kind ≡ true)
    (g : object_at t p.methods ≡ Some a) (h : is_pointers a.kind ≡ true) (apart : p.dictionary ≢ p.methods) (enough : length o.fields - 2 ≤ length a.fields) (two : 2 < length o.fields)
    (x_there : is_there bounded_table t x ≡ true) (m_there : is_there bounded_table t m ≡ true) (tally_there : is_there bounded_table t p.tally ≡ true) where
  hold_adds : (k : ℕ) → k < length o.fields - 2 → ending_by half o.fields x ≡ Holds k → (u : Table) → Replaces t p.methods a k m u → Added t p.dictionary p.methods x m o a half u
  hold_adds k l r u c = record {
    dictionary = o;
    is = replaces_other t p.methods a k m u g c p.dictionary apart ∙ e;
    pointers = f;
    size = refl;
    to_methods = refl;
    array = with_field a k m;
    array_is = replaces_it t p.methods a k m u g c;
    array_pointers = h;
    adds = replaces_method o.fields a.fields x m half k (omega (arith, l)) (omega (arith, l, enough)) r;
    others = λ w z y. replaces_other t p.methods a k m u g c w y;
    kept = replaces_kept t p.methods a k m u g c;
  }

  module _ (k : ℕ) (l : k < length o.fields - 2) (r : ending_by half o.fields x ≡ Vacant k) (u : Table) (c : Replaces t p.dictionary o (2 + k) x u) where
    array_after : object_at u p.methods ≡ Some a
    array_after = replaces_other t p.dictionary o (2 + k) x u e c p.methods (λ q. apart (sym q)) ∙ g

    module _ (w : Table) (b : Replaces u p.methods a k m w) where
      dictionary_after : object_at w p.dictionary ≡ Some (with_field o (2 + k) x)
      dictionary_after = replaces_other u p.methods a k m w array_after b p.dictionary apart ∙ replaces_it t p.dictionary o (2 + k) x u e c

      vacant_adds : (z : Table) → Replaces w p.dictionary (with_field o (2 + k) x) 0 (raised_tally p.tally) z → Added t p.dictionary p.methods x m o a half z
      vacant_adds z y = record {
        dictionary = with_field (with_field o (2 + k) x) 0 (raised_tally p.tally);
        is = replaces_it w p.dictionary (with_field o (2 + k) x) 0 (raised_tally p.tally) z dictionary_after y;
        pointers = f;
        size = length-set (slice_set o.fields (2 + k) x) 0 (raised_tally p.tally) ∙ length-set o.fields (2 + k) x;
        to_methods = get_set_other (slice_set o.fields (2 + k) x) 0 1 (raised_tally p.tally) (omega arith) ∙ get_set_other o.fields (2 + k) 1 x (omega arith);
        array = with_field a k m;
        array_is = replaces_other w p.dictionary (with_field o (2 + k) x) 0 (raised_tally p.tally) z dictionary_after y p.methods (λ q. apart (sym q)) ∙ replaces_it u p.methods a k m w array_after b;
        array_pointers = h;
        adds = adds_method o.fields a.fields x m half k (omega (arith, l)) (omega (arith, l, enough)) (raised_tally p.tally) r;
        others = λ v i j.
            replaces_other w p.dictionary (with_field o (2 + k) x) 0 (raised_tally p.tally) z dictionary_after y v i
            ∙ (replaces_other u p.methods a k m w array_after b v j ∙ replaces_other t p.dictionary o (2 + k) x u e c v i);
        kept = kept_then t w z (kept_then t u w (replaces_kept t p.dictionary o (2 + k) x u e c) (replaces_kept u p.methods a k m w array_after b))
            (replaces_kept w p.dictionary (with_field o (2 + k) x) 0 (raised_tally p.tally) z dictionary_after y);
      }

  at_adds : (end : Ending) → ending_by half o.fields x ≡ end → IsWithin (length o.fields - 2) end → end ≢ Nowhere → Goes head (add_at bounded_table p x m end) t (λ b u. Added t p.dictionary p.methods x m o a half u)
  unfolding add_at put_method
  at_adds (Holds k) r l n =
      let c = store_exactly head t p.methods a k m g h (omega (arith, l, enough)) m_there in
      record { value = c.value; next = c.next; goes = c.goes; leaves = hold_adds k l r c.next c.leaves }
  at_adds (Vacant k) r l n =
      next_goes head t (λ b w. (u : Table) × Replaces t p.dictionary o (2 + k) x u × Replaces u p.methods a k m w) _ _ _
      (next_goes head t _ _ _ _ (store_exactly head t p.dictionary o (2 + k) x e f (omega (arith, l)) x_there)
      (λ b u c. both u c (store_exactly head u p.methods a k m (array_after k l r u c) h (omega (arith, l, enough)) (there_kept t u m (replaces_kept t p.dictionary o (2 + k) x u e c) m_there))))
      (λ b w c. last w c)
    where
      both : (u : Table) → Replaces t p.dictionary o (2 + k) x u → Goes head (store_field bounded_table p.methods k m) u (λ b w. Replaces u p.methods a k m w)
          → Goes head (store_field bounded_table p.methods k m) u (λ b w. (u : Table) × Replaces t p.dictionary o (2 + k) x u × Replaces u p.methods a k m w)
      both u c q = record { value = q.value; next = q.next; goes = q.goes; leaves = (u, c, q.leaves) }

      last : (w : Table) → ((u : Table) × Replaces t p.dictionary o (2 + k) x u × Replaces u p.methods a k m w)
          → Goes head (store_field bounded_table p.dictionary 0 (raised_tally p.tally)) w (λ b z. Added t p.dictionary p.methods x m o a half z)
      last w c =
          let i = length-set o.fields (2 + k) x in
          let kept = kept_then t c.0 w (replaces_kept t p.dictionary o (2 + k) x c.0 e c.1) (replaces_kept c.0 p.methods a k m w (array_after k l r c.0 c.1) c.2) in
          let q = store_exactly head w p.dictionary (with_field o (2 + k) x) 0 (raised_tally p.tally) (dictionary_after k l r c.0 c.1 w c.2) f (omega (arith, i, two)) (there_kept t w (raised_tally p.tally) kept (raised_there t p.tally tally_there)) in
          record { value = q.value; next = q.next; goes = q.goes; leaves = vacant_adds k l r c.0 c.1 w c.2 q.next q.leaves }
  at_adds Nowhere r l n = absurd (n refl)

  pub add_adds : ending_by half o.fields x ≡ p.end → IsWithin (length o.fields - 2) p.end → p.end ≢ Nowhere → Goes head (add_at bounded_table p x m p.end) t (λ b u. Added t p.dictionary p.methods x m o a half u)
  add_adds r l n = at_adds p.end r l n
