-- The objects that were made get what they were planned with.
use Rattle.std.proofs.Common.{◌≡◌, ◌≢◌, ℕ, ◌+◌, ◌*◌, ◌<◌, ◌≤◌, zero, suc, List, [], ◌∷◌, ◌++◌, length, take, Some, Bool, true, refl, sym, ap, ◌∙◌, subst, arith, inl, inr, length-set}
use Rattle.std.specs.Prelude.{◌-◌, slice_get, slice_set}
use Rattle.std.proofs.lemmas.List.{append_assoc, append-nil}
use Rattle.std.proofs.Math.Seq.{take-suc-set}
use Rattle.st_model.specs.declared.kind.Kind.{Kind}
use Rattle.st_model.specs.declared.kind.Kind.TheVariants as kind
use Rattle.st_model.specs.Values.{Value}
use Rattle.st_model.specs.Objects.{Object, nil, is_pointers, is_method, has_bytes, first_unit, with_field, with_units}
use Rattle.st_model.specs.Machine.{Head, Step, is_there, ◌>>◌}
use Rattle.st_model.specs.Steps.{store_field, store_fields, store_method_field, store_bytes}
use Rattle.st_model.specs.Table.{Table, bounded_table}
use Rattle.st_install.specs.Plans.{PlannedValue, NewObject}
use Rattle.st_install.specs.Installing.{part_values, store_method_fields, fill_method, fill_by, fill_all}
use Rattle.st_install.proofs.InTurn.{InTurn, fields_in_turn, method_in_turn}
use Rattle.st_install.proofs.Goes.{object_at, replaced, replaced-it, replaced-other, same_or_other, IsLike, like_itself, like_then, like_with_field, LikeAt, IsKept, all_kept, kept_then, kept_replaced, there_kept, Goes, next_goes, answer_goes, Stores, store_goes, store_method_goes, store_byte_goes}
use Rattle.st_install.proofs.GoesMaking.{blank, blank_by, IsShaped, blank_fields, blank_units}

-- VALUES THAT ARE THERE

abbrev pub AreThere : Table → List Value → Type 0
AreThere t [] = Unit {0}
AreThere t (x ∷ xs) = (is_there bounded_table t x ≡ true) × AreThere t xs

pub are_kept : (t u : Table) (xs : List Value) → IsKept t u → AreThere t xs → AreThere u xs
are_kept t u [] k h = tt
are_kept t u (x ∷ xs) k h = (there_kept t u x k h.0, are_kept t u xs k h.1)

-- ONE OBJECT

-- one object alone has changed: it is like it was, and has these fields
pub record Fills (v : Value) (o : Object) (fs : List Value) (t u : Table) : Type 0 where
  pub object : Object
  pub is : object_at u v ≡ Some object
  pub like : IsLike o object
  pub fields : object.fields ≡ fs
  pub others : (w : Value) → w ≢ v → object_at u w ≡ object_at t w

pub fills_kept : (v : Value) (o : Object) (fs : List Value) (t u : Table) → object_at t v ≡ Some o → Fills v o fs t u → IsKept t u
fills_kept v o fs t u e h = record {
  at = λ w q f. elim (same_or_other w v) as (λ m. LikeAt u w q) [
    | inl r ↦ let g : o ≡ q = some_same (sym e ∙ (ap (object_at t) (sym r) ∙ f)) in
        record { object = h.object; is = ap (object_at u) r ∙ h.is; like = subst (λ y. IsLike y h.object) g h.like }
    | inr d ↦ record { object = q; is = h.others w d ∙ f; like = like_itself q }
  ];
}
  where
    some_same : {a b : Object} → Some a ≡ Some b → a ≡ b
    some_same e = cc

fills_none : (v : Value) (o : Object) (fs : List Value) (t : Table) → object_at t v ≡ Some o → o.fields ≡ fs → Fills v o fs t t
fills_none v o fs t e f = record { object = o; is = e; like = like_itself o; fields = f; others = λ w d. refl }

fills_more : (v : Value) (o p : Object) (fs : List Value) (t u : Table) → object_at t v ≡ Some o → IsLike o p → Fills v p fs (replaced t v p) u → Fills v o fs t u
fills_more v o p fs t u e l h = record {
  object = h.object;
  is = h.is;
  like = like_then o p h.object l h.like;
  fields = h.fields;
  others = λ w d. h.others w d ∙ replaced-other t v w p d;
}

-- a store of one field, and then those of others
module _ (head : Head) (v : Value) (o p : Object) (fs : List Value) (t : Table) (e : object_at t v ≡ Some o) where
  pub stored_then : (m n : Step Table Unit) → Goes head m t (λ a u. Stores v o p t u) → Goes head n (replaced t v p) (λ a u. Fills v p fs (replaced t v p) u)
      → Goes head (m >> n) t (λ a u. Fills v o fs t u)
  stored_then m n g h =
      next_goes head t (λ a u. Stores v o p t u) (λ a u. Fills v o fs t u) m n g (λ a u k. filled u k)
    where
      filled : (u : Table) → Stores v o p t u → Goes head n u (λ a w. Fills v o fs t w)
      filled u k = subst (λ y. Goes head n y (λ a w. Fills v o fs t w)) (sym k.is)
          (record { value = h.value; next = h.next; goes = h.goes; leaves = fills_more v o p fs t h.next e k.like h.leaves })

take_all : (fs : List Value) (n : ℕ) → n ≡ length fs → fs ≡ take n fs ++ []
take_all fs n e = sym (append-nil (take n fs) ∙ (ap (λ k. take k fs) e ∙ whole fs))
  where
    whole : (xs : List Value) → take (length xs) xs ≡ xs
    whole [] = refl
    whole (x ∷ xs) = ap (λ ys. x ∷ ys) (whole xs)

taken_on : (fs : List Value) (n : ℕ) (x : Value) (xs : List Value) → n < length fs → take (suc n) (slice_set fs n x) ++ xs ≡ take n fs ++ x ∷ xs
taken_on fs n x xs l = ap (λ ys. ys ++ xs) (take-suc-set fs n x l) ∙ append_assoc (take n fs) (x ∷ []) xs

module _ (head : Head) (v : Value) where
  there_stored : (t : Table) (o p : Object) (xs : List Value) → object_at t v ≡ Some o → IsLike o p → AreThere t xs → AreThere (replaced t v p) xs
  there_stored t o p xs e l h = are_kept t (replaced t v p) xs (kept_replaced t v o p e l) h

  -- fields of an object of a kind, by stores that go one after the other
  module _ (of_kind : Kind → Bool) (one : ℕ → Value → Step Table Unit) (all : ℕ → List Value → Step Table Unit) (turn : InTurn Table one all)
      (stores : (t : Table) (o : Object) → object_at t v ≡ Some o → (i : ℕ) (x : Value) → of_kind o.kind ≡ true → i < length o.fields → is_there bounded_table t x ≡ true → Goes head (one i x) t (λ a u. Stores v o (with_field o i x) t u)) where
    all_go : (t : Table) (o : Object) (to : ℕ) (xs : List Value) → object_at t v ≡ Some o → of_kind o.kind ≡ true → to + length xs ≡ length o.fields → AreThere t xs → Goes head (all to xs) t (λ a u. Fills v o (take to o.fields ++ xs) t u)
    all_go t o to [] e p l h =
        subst (λ (m : Step Table Unit). Goes head m t (λ a u. Fills v o (take to o.fields ++ []) t u)) (sym (turn.none to)) (answer_goes head t _ tt (fills_none v o _ t e (take_all o.fields to (omega (arith, l)))))
    all_go t o to (x ∷ xs) e p l h =
        let b : to < length o.fields = omega (arith, l) in
        subst (λ (m : Step Table Unit). Goes head m t (λ a u. Fills v o (take to o.fields ++ x ∷ xs) t u)) (sym (turn.more to x xs))
        (stored_then head v o (with_field o to x) (take to o.fields ++ x ∷ xs) t e _ _ (stores t o e to x p b h.0)
        (subst (λ fs. Goes head (all (suc to) xs) (replaced t v (with_field o to x)) (λ a u. Fills v (with_field o to x) fs (replaced t v (with_field o to x)) u))
        (taken_on o.fields to x xs b)
        (all_go (replaced t v (with_field o to x)) (with_field o to x) (suc to) xs (replaced-it t v (with_field o to x) o e) p
        (let n = length-set o.fields to x in omega (arith, l, n)) (there_stored t o (with_field o to x) xs e (like_with_field o to x) h.1))))

  pub store_fields_go : (t : Table) (o : Object) (to : ℕ) (xs : List Value) → object_at t v ≡ Some o → is_pointers o.kind ≡ true → to + length xs ≡ length o.fields → AreThere t xs
      → Goes head (store_fields bounded_table v to xs) t (λ a u. Fills v o (take to o.fields ++ xs) t u)
  store_fields_go = all_go is_pointers (store_field bounded_table v) (store_fields bounded_table v) (fields_in_turn Table bounded_table v) (λ t o e i x p l k. store_goes t v o head e i x p l k)

  pub store_method_fields_go : (t : Table) (o : Object) (to : ℕ) (xs : List Value) → object_at t v ≡ Some o → is_method o.kind ≡ true → to + length xs ≡ length o.fields → AreThere t xs
      → Goes head (store_method_fields bounded_table v to xs) t (λ a u. Fills v o (take to o.fields ++ xs) t u)
  store_method_fields_go = all_go is_method (store_method_field bounded_table v) (store_method_fields bounded_table v) (method_in_turn Table bounded_table v) (λ t o e i x p l k. store_method_goes t v o head e i x p l k)

  pub store_bytes_go : (t : Table) (o : Object) (to : ℕ) (bs : List ℕ) → object_at t v ≡ Some o → has_bytes o.kind ≡ true → first_unit o ≤ to → to + length bs ≤ first_unit o + length o.units
      → Goes head (store_bytes bounded_table v to bs) t (λ a u. Fills v o o.fields t u)
  unfolding store_bytes
  store_bytes_go t o to [] e p l k = answer_goes head t _ tt (fills_none v o _ t e refl)
  store_bytes_go t o to (b ∷ bs) e p l k =
      stored_then head v o (with_units o (slice_set o.units (to - first_unit o) b)) o.fields t e _ _ (store_byte_goes t v o head to b e p l (omega (arith, l, k)))
      (store_bytes_go (replaced t v (with_units o (slice_set o.units (to - first_unit o) b))) (with_units o (slice_set o.units (to - first_unit o) b)) (suc to) bs
      (replaced-it t v (with_units o (slice_set o.units (to - first_unit o) b)) o e) p (omega (arith, l))
      (let n = length-set o.units (to - first_unit o) b in omega (arith, k, n)))

-- what one object was planned with is put into it
module _ (head : Head) (v : Value) (t : Table) (o : NewObject) (xs : List Value) (h : AreThere t xs) where
  fill_pointers : object_at t v ≡ Some (blank_by kind.Pointers o) → length xs ≡ length o.fields → IsShaped kind.Pointers o
      → Goes head (store_fields bounded_table v 0 xs) t (λ a u. Fills v (blank_by kind.Pointers o) xs t u)
  fill_pointers e l w = store_fields_go head v t (blank_by kind.Pointers o) 0 xs e refl (let n = blank_fields kind.Pointers o w in omega (arith, n, l)) h

  no_values : (ys : List Value) → length ys ≡ 0 → ys ≡ []
  no_values [] e = refl
  no_values (y ∷ ys) e = absurd (omega (arith, e))

  fill_bytes : object_at t v ≡ Some (blank_by kind.Bytes o) → length xs ≡ length o.fields → IsShaped kind.Bytes o
      → Goes head (store_bytes bounded_table v 0 o.bytes) t (λ a u. Fills v (blank_by kind.Bytes o) xs t u)
  fill_bytes e l w =
      subst (λ ys. Goes head (store_bytes bounded_table v 0 o.bytes) t (λ a u. Fills v (blank_by kind.Bytes o) ys t u))
      (sym (no_values xs (l ∙ ap (λ ys. length ys) w)))
      (store_bytes_go head v t (blank_by kind.Bytes o) 0 o.bytes e refl (omega arith) (let n = blank_units kind.Bytes o w in omega (arith, n)))

  bytes_then : (u : Table) → Fills v (blank_by kind.Method o) xs t u → length xs ≡ length o.fields → IsShaped kind.Method o
      → Goes head (store_bytes bounded_table v (2 * length xs) o.bytes) u (λ a w. Fills v (blank_by kind.Method o) xs t w)
  bytes_then u f l w =
      let a : length f.object.fields ≡ length o.fields = f.like.fields ∙ blank_fields kind.Method o w in
      let b : length f.object.units ≡ length o.bytes = f.like.units ∙ blank_units kind.Method o w in
      let g = store_bytes_go head v u f.object (2 * length xs) o.bytes f.is (ap (λ k. has_bytes k) f.like.kind) (omega (arith, a, l)) (omega (arith, a, b, l)) in
      record {
        value = g.value;
        next = g.next;
        goes = g.goes;
        leaves = record {
          object = g.leaves.object;
          is = g.leaves.is;
          like = like_then _ _ _ f.like g.leaves.like;
          fields = g.leaves.fields ∙ f.fields;
          others = λ y d. g.leaves.others y d ∙ f.others y d;
        };
      }

  fill_method_go : object_at t v ≡ Some (blank_by kind.Method o) → length xs ≡ length o.fields → IsShaped kind.Method o
      → Goes head (fill_method bounded_table v xs o.bytes) t (λ a u. Fills v (blank_by kind.Method o) xs t u)
  unfolding fill_method
  fill_method_go e l w =
      next_goes head t (λ a u. Fills v (blank_by kind.Method o) xs t u) _ _ _
      (store_method_fields_go head v t (blank_by kind.Method o) 0 xs e refl (let n = blank_fields kind.Method o w in omega (arith, n, l)) h)
      (λ a u f. bytes_then u f l w)

  pub fill_go : (k : Kind) → object_at t v ≡ Some (blank_by k o) → length xs ≡ length o.fields → IsShaped k o
      → Goes head (fill_by bounded_table v xs o.bytes k) t (λ a u. Fills v (blank_by k o) xs t u)
  unfolding fill_by
  fill_go kind.Pointers e l w = fill_pointers e l w
  fill_go kind.Words e l w = absurd w
  fill_go kind.Bytes e l w = fill_bytes e l w
  fill_go kind.Method e l w = fill_method_go e l w

-- ALL OBJECTS

pub length-part_values : (made : List Value) (ps : List PlannedValue) → length (part_values nil made ps) ≡ length ps
length-part_values made [] = refl
length-part_values made (p ∷ ps) = ap (λ n. suc n) (length-part_values made ps)

-- the values of all objects' parts are there
abbrev pub AllThere : Table → List Value → List NewObject → Type 0
AllThere t made [] = Unit {0}
AllThere t made (o ∷ os) = AreThere t (part_values nil made o.fields) × AllThere t made os

pub all_there_kept : (t u : Table) (made : List Value) (os : List NewObject) → IsKept t u → AllThere t made os → AllThere u made os
all_there_kept t u made [] k h = tt
all_there_kept t u made (o ∷ os) k h = (are_kept t u (part_values nil made o.fields) k h.0, all_there_kept t u made os k h.1)

abbrev pub AllShaped : List NewObject → Type 0
AllShaped [] = Unit {0}
AllShaped (o ∷ os) = IsShaped o.kind o × AllShaped os

-- an object as it was planned
pub record IsFilled (made : List Value) (o : NewObject) (v : Value) (u : Table) : Type 0 where
  pub object : Object
  pub is : object_at u v ≡ Some object
  pub like : IsLike (blank o) object
  pub fields : object.fields ≡ part_values nil made o.fields

pub record FillsAll (made vs : List Value) (os : List NewObject) (t u : Table) : Type 0 where
  pub objects : (i : ℕ) (v : Value) (o : NewObject) → slice_get vs i ≡ Some v → slice_get os i ≡ Some o → IsFilled made o v u
  pub others : (w : Value) → ((i : ℕ) → slice_get vs i ≢ Some w) → object_at u w ≡ object_at t w
  pub kept : IsKept t u

-- blank objects, each under its own name
pub record AreBlank (vs : List Value) (os : List NewObject) (t : Table) : Type 0 where
  pub length : length vs ≡ length os
  pub apart : (i j : ℕ) (v : Value) → slice_get vs i ≡ Some v → slice_get vs j ≡ Some v → i ≡ j
  pub objects : (i : ℕ) (v : Value) (o : NewObject) → slice_get vs i ≡ Some v → slice_get os i ≡ Some o → object_at t v ≡ Some (blank o)

fills_no_more : (made vs : List Value) (t : Table) → FillsAll made vs [] t t
fills_no_more made vs t = record { objects = λ i v o e f. cc; others = λ w d. refl; kept = all_kept t }

module _ (made : List Value) (v : Value) (vs : List Value) (o : NewObject) (os : List NewObject) (t : Table) (b : AreBlank (v ∷ vs) (o ∷ os) t) where
  pub first_blank : object_at t v ≡ Some (blank o)
  first_blank = b.objects 0 v o refl refl

  not_first : (i : ℕ) (w : Value) → slice_get vs i ≡ Some w → w ≢ v
  not_first i w e q = let z : 0 ≡ suc i = b.apart 0 (suc i) w (ap (λ x. Some x) (sym q)) e in absurd (omega (arith, z))

  pub still_blank : (u : Table) → Fills v (blank o) (part_values nil made o.fields) t u → AreBlank vs os u
  still_blank u f = record {
    length = let n = b.length in omega (arith, n);
    apart = λ i j w e g. let z : suc i ≡ suc j = b.apart (suc i) (suc j) w e g in omega (arith, z);
    objects = λ i w p e g. f.others w (not_first i w e) ∙ b.objects (suc i) w p e g;
  }

  module _ (u w : Table) (f : Fills v (blank o) (part_values nil made o.fields) t u) (g : FillsAll made vs os u w) where
    first_stays : object_at w v ≡ object_at u v
    first_stays = g.others v (λ i e. not_first i v e refl)

    filled : (i : ℕ) (x : Value) (p : NewObject) → slice_get (v ∷ vs) i ≡ Some x → slice_get (o ∷ os) i ≡ Some p → IsFilled made p x w
    filled zero x p e q =
        let a : v ≡ x = cc in
        let c : o ≡ p = cc in
        subst (λ y. IsFilled made y x w) c (subst (λ y. IsFilled made o y w) a
        (record { object = f.object; is = first_stays ∙ f.is; like = f.like; fields = f.fields }))
    filled (suc i) x p e q = g.objects i x p e q

    pub fills_first : FillsAll made (v ∷ vs) (o ∷ os) t w
    fills_first = record {
      objects = filled;
      others = λ y d. g.others y (λ i. d (suc i)) ∙ f.others y (λ q. d 0 (ap (λ x. Some x) (sym q)));
      kept = kept_then t u w (fills_kept v (blank o) _ t u first_blank f) g.kept;
    }

no_names : (made vs : List Value) (o : NewObject) (os : List NewObject) (t : Table) → length vs ≡ length (o ∷ os) → vs ≡ [] → ⊥
no_names made vs o os t e q = let f : length vs ≡ 0 = ap (λ xs. length xs) q in omega (arith, e, f)

pub fill_all_goes : (head : Head) (made : List Value) (t : Table) (vs : List Value) (os : List NewObject) → AreBlank vs os t → AllShaped os → AllThere t made os
    → Goes head (fill_all bounded_table nil made vs os) t (λ a u. FillsAll made vs os t u)
unfolding fill_all
fill_all_goes head made t vs [] b h k = answer_goes head t _ tt (fills_no_more made vs t)
fill_all_goes head made t [] (o ∷ os) b h k = absurd (no_names made [] o os t b.length refl)
fill_all_goes head made t (v ∷ vs) (o ∷ os) b h k =
    next_goes head t (λ a u. Fills v (blank o) (part_values nil made o.fields) t u) _ _ _
    (fill_go head v t o (part_values nil made o.fields) k.0 o.kind (first_blank made v vs o os t b) (length-part_values made o.fields) h.0)
    (λ a u f. next_filled u f
    (fill_all_goes head made u vs os (still_blank made v vs o os t b u f) h.1
    (all_there_kept t u made os (fills_kept v (blank o) _ t u (first_blank made v vs o os t b) f) k.1)))
  where
    next_filled : (u : Table) → Fills v (blank o) (part_values nil made o.fields) t u → Goes head (fill_all bounded_table nil made vs os) u (λ a w. FillsAll made vs os u w)
        → Goes head (fill_all bounded_table nil made vs os) u (λ a w. FillsAll made (v ∷ vs) (o ∷ os) t w)
    next_filled u f g = record { value = g.value; next = g.next; goes = g.goes; leaves = fills_first made v vs o os t b u g.next f g.leaves }
