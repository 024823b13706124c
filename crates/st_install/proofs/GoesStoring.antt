-- The stores of a plan go where their objects are there, as each leaves all objects of the same kind and size.
use Rattle.std.proofs.Common.{◌≡◌, ◌≢◌, ℕ, ◌+◌, ◌<◌, ◌≤◌, suc, List, [], ◌∷◌, length, Option, Some, None, Bool, true, false, refl, sym, ap, ◌∙◌, subst, arith}
use Rattle.std.specs.Prelude.{◌-◌, ◌%◌, ◌==◌, slice_get, if◌then◌else◌}
use Rattle.std.proofs.lemmas.Bool.Decides.{nat_tests}
use Rattle.st_model.specs.Values.{Value, Small, Ref}
use Rattle.st_model.specs.Objects.{Object, nil, is_pointers, with_field}
use Rattle.st_model.specs.Machine.{Head, Step, is_there, ◌>>◌}
use Rattle.st_model.specs.Steps.{fetch_field, store_field}
use Rattle.st_model.specs.Table.{Table, bounded_table}
use Rattle.st_install.specs.Plans.{FieldStore, Plan}
use Rattle.st_install.specs.Dictionaries.{Ending, Holds, Vacant, Nowhere, place_of_selector, put_method, raised_tally}
use Rattle.st_install.specs.Installing.{part_value, store_all, Placing, find_place, adopt, add_at, store_planned}
use Rattle.st_install.proofs.Goes.{object_at, IsKept, all_kept, kept_then, kept_replaced, there_kept, Goes, next_goes, read_goes, answer_goes, tells_field, store_goes}
use Rattle.st_install.proofs.GoesSeeking.{ending_for, bounded_reads, tells_seek, IsWithin}

-- an object of kind Pointers with so many fields or more
pub record HasFields (t : Table) (v : Value) (n : ℕ) : Type 0 where
  pub object : Object
  pub is : object_at t v ≡ Some object
  pub pointers : is_pointers object.kind ≡ true
  pub enough : n ≤ length object.fields

pub fields_kept : (t u : Table) (v : Value) (n : ℕ) → IsKept t u → HasFields t v n → HasFields u v n
fields_kept t u v n k h =
    let a = k.at v h.object h.is in
    record {
      object = a.object;
      is = a.is;
      pointers = ap is_pointers a.like.kind ∙ h.pointers;
      enough = let l = h.enough in let m = a.like.fields in omega (arith, l, m);
    }

pub fewer_fields : (t : Table) (v : Value) (n m : ℕ) → m ≤ n → HasFields t v n → HasFields t v m
fewer_fields t v n m l h = record { object = h.object; is = h.is; pointers = h.pointers; enough = let e = h.enough in omega (arith, e, l) }

-- a step that goes, and leaves what is there
abbrev pub GoesOn : Head → Step Table Unit → Table → Type 0
GoesOn head m t = Goes head m t (λ a u. IsKept t u)

pub kept_on : (head : Head) (t u : Table) (m : Step Table Unit) → IsKept t u → GoesOn head m u → Goes head m u (λ a w. IsKept t w)
kept_on head t u m k g = record { value = g.value; next = g.next; goes = g.goes; leaves = kept_then t u g.next k g.leaves }

pub goes_on_then : (head : Head) (t : Table) (m n : Step Table Unit) → GoesOn head m t → ((u : Table) → IsKept t u → GoesOn head n u) → GoesOn head (m >> n) t
goes_on_then head t m n g h = next_goes head t (λ a u. IsKept t u) _ m n g (λ a u k. kept_on head t u n k (h u k))

pub store_goes_on : (head : Head) (t : Table) (v : Value) (i : ℕ) (x : Value) → HasFields t v (suc i) → is_there bounded_table t x ≡ true → GoesOn head (store_field bounded_table v i x) t
store_goes_on head t v i x h k =
    let g = store_goes t v h.object head h.is i x h.pointers (let l = h.enough in omega (arith, l)) k in
    record {
      value = g.value;
      next = g.next;
      goes = g.goes;
      leaves = subst (λ u. IsKept t u) (sym g.leaves.is) (kept_replaced t v h.object (with_field h.object i x) h.is g.leaves.like);
    }

-- each store has an object with the field, and a value that is there
abbrev pub CanStore : Table → List Value → List FieldStore → Type 0
CanStore t made [] = Unit {0}
CanStore t made (x ∷ xs) =
    HasFields t (part_value nil made x.object) (suc x.field) × (is_there bounded_table t (part_value nil made x.value) ≡ true) × CanStore t made xs

pub can_store_kept : (t u : Table) (made : List Value) (xs : List FieldStore) → IsKept t u → CanStore t made xs → CanStore u made xs
can_store_kept t u made [] k h = tt
can_store_kept t u made (x ∷ xs) k h =
    (fields_kept t u (part_value nil made x.object) (suc x.field) k h.0, there_kept t u (part_value nil made x.value) k h.1, can_store_kept t u made xs k h.2)

store_all_goes : (head : Head) (t : Table) (made : List Value) (xs : List FieldStore) → CanStore t made xs → GoesOn head (store_all bounded_table nil made xs) t
unfolding store_all
store_all_goes head t made [] h = answer_goes head t _ tt (all_kept t)
store_all_goes head t made (x ∷ xs) h =
    goes_on_then head t _ _ (store_goes_on head t (part_value nil made x.object) x.field (part_value nil made x.value) h.0 h.1)
    (λ u k. store_all_goes head u made xs (can_store_kept t u made xs k h.2))

-- WHERE THE METHOD GOES

-- there are places, a method for each of them, and one of them is for the selector
pub record CanAdd (t : Table) (p : Placing) (places : ℕ) : Type 0 where
  pub dictionary : HasFields t p.dictionary (2 + places)
  pub methods : HasFields t p.methods places
  pub tally : is_there bounded_table t p.tally ≡ true
  pub within : IsWithin places p.end
  pub somewhere : p.end ≢ Nowhere

pub can_add_kept : (t u : Table) (p : Placing) (places : ℕ) → IsKept t u → CanAdd t p places → CanAdd u p places
can_add_kept t u p places k h = record {
  dictionary = fields_kept t u p.dictionary (2 + places) k h.dictionary;
  methods = fields_kept t u p.methods places k h.methods;
  tally = there_kept t u p.tally k h.tally;
  within = h.within;
  somewhere = h.somewhere;
}

raised_by : (t : Table) (n : ℕ) (b : Bool) → n < 32768 → is_there bounded_table t (if b then Small n else Small ((n + 1) % 32768)) ≡ true
raised_by t n true l = grind (arith, nat_tests)
raised_by t n false l = grind (arith, nat_tests)

pub raised_there : (t : Table) (v : Value) → is_there bounded_table t v ≡ true → is_there bounded_table t (raised_tally v) ≡ true
raised_there t (Small n) h = raised_by t n (n == 16383) (grind (arith, nat_tests))
raised_there t (Ref n) h = h

module _ (head : Head) (p : Placing) (places : ℕ) (selector method : Value) where
  add_goes : (t : Table) (k : ℕ) → CanAdd t p places → k < places → is_there bounded_table t selector ≡ true → is_there bounded_table t method ≡ true
      → GoesOn head (put_method bounded_table p.dictionary p.methods k selector method) t
  unfolding put_method
  add_goes t k h l a b =
      goes_on_then head t _ _ (store_goes_on head t p.dictionary (2 + k) selector (fewer_fields t p.dictionary (2 + places) (suc (2 + k)) (omega (arith, l)) h.dictionary) a)
      (λ u kept. store_goes_on head u p.methods k method (fields_kept t u p.methods (suc k) kept (fewer_fields t p.methods places (suc k) (omega (arith, l)) h.methods)) (there_kept t u method kept b))

  add_at_goes : (t : Table) (e : Ending) → CanAdd t p places → IsWithin places e → e ≢ Nowhere → is_there bounded_table t selector ≡ true → is_there bounded_table t method ≡ true
      → GoesOn head (add_at bounded_table p selector method e) t
  unfolding add_at
  add_at_goes t (Holds k) h l n a b = store_goes_on head t p.methods k method (fewer_fields t p.methods places (suc k) (omega (arith, l)) h.methods) b
  add_at_goes t (Vacant k) h l n a b =
      goes_on_then head t _ _ (add_goes t k h l a b)
      (λ u kept. store_goes_on head u p.dictionary 0 (raised_tally p.tally) (fields_kept t u p.dictionary 1 kept (fewer_fields t p.dictionary (2 + places) 1 (omega arith) h.dictionary))
      (there_kept t u (raised_tally p.tally) kept (raised_there t p.tally h.tally)))
  add_at_goes t Nowhere h l n a b = absurd (n refl)

  pub place_goes : (t : Table) → CanAdd t p places → is_there bounded_table t selector ≡ true → is_there bounded_table t method ≡ true
      → GoesOn head (add_at bounded_table p selector method p.end) t
  place_goes t h a b = add_at_goes t p.end h h.within h.somewhere a b

adopt_goes : (head : Head) (t : Table) (class dictionary : Value) (grown : Option ℕ) → HasFields t class 2 → is_there bounded_table t dictionary ≡ true
    → GoesOn head (adopt bounded_table class dictionary grown) t
unfolding adopt
adopt_goes head t class dictionary None h k = answer_goes head t _ tt (all_kept t)
adopt_goes head t class dictionary (Some n) h k = store_goes_on head t class 1 dictionary h k

pub there_at : (t : Table) (v : Value) (o : Object) → object_at t v ≡ Some o → is_there bounded_table t v ≡ true
there_at t (Small n) o e = cc
there_at t (Ref n) o e = rw e refl

-- all stores of a plan, once the place is found
pub store_planned_goes : (head : Head) (t : Table) (made : List Value) (p : Plan) (x : Placing) (places : ℕ) → CanStore t made p.symbol_stores → HasFields t p.class 2 → CanAdd t x places
    → is_there bounded_table t (part_value nil made p.selector) ≡ true → is_there bounded_table t (part_value nil made p.method) ≡ true
    → GoesOn head (store_planned bounded_table nil made p x) t
unfolding store_planned
store_planned_goes head t made p x places stores class h a b =
    let d = h.dictionary in
    goes_on_then head t _ _ (store_all_goes head t made p.symbol_stores stores)
    (λ u k. goes_on_then head u _ _
    (adopt_goes head u p.class x.dictionary p.grown (fields_kept t u p.class 2 k class) (there_kept t u x.dictionary k (there_at t x.dictionary d.object d.is)))
    (λ w l. place_goes head x places (part_value nil made p.selector) (part_value nil made p.method) w (can_add_kept u w x places l (can_add_kept t u x places k h))
    (there_kept u w (part_value nil made p.selector) l (there_kept t u (part_value nil made p.selector) k a))
    (there_kept u w (part_value nil made p.method) l (there_kept t u (part_value nil made p.method) k b))))

-- a place is found, without a change
pub record Finds (t : Table) (places : ℕ) (p : Placing) (u : Table) : Type 0 where
  pub same : u ≡ t
  pub adds : CanAdd t p places

pub find_goes : (head : Head) (t : Table) (d selector methods tally : Value) (o : Object) → object_at t d ≡ Some o → is_pointers o.kind ≡ true → 2 < length o.fields
    → slice_get o.fields 0 ≡ Some tally → slice_get o.fields 1 ≡ Some methods → HasFields t methods (length o.fields - 2) → is_there bounded_table t tally ≡ true
    → IsWithin (length o.fields - 2) (ending_for t o.fields selector selector) → ending_for t o.fields selector selector ≢ Nowhere
    → Goes head (find_place bounded_table d selector) t (λ p u. Finds t (length o.fields - 2) p u)
unfolding find_place place_of_selector
find_goes head t d selector methods tally o e p l a b h k m n =
    read_goes head t _ (fetch_field bounded_table d 1) _ methods (tells_field t d o e p 1 methods b)
    (read_goes head t _ (fetch_field bounded_table d 0) _ tally (tells_field t d o e p 0 tally a)
    (read_goes head t _ (place_of_selector bounded_table d selector) _ (ending_for t o.fields selector selector) (tells_seek bounded_table bounded_reads t d o e p selector selector (omega (arith, l)))
    (answer_goes head t _ _ (record {
      same = refl;
      adds = record {
        dictionary = record { object = o; is = e; pointers = p; enough = omega (arith, l) };
        methods = h;
        tally = k;
        within = m;
        somewhere = n;
      };
    }))))
