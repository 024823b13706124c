-- What a store into a run of the lists leaves.
use Rattle.std.proofs.Common.{◌≡◌, ◌≢◌, ℕ, zero, suc, ◌+◌, ◌-◌, ◌/◌, ◌<◌, ◌≤◌, inl, inr, List, [], ◌∷◌, take, drop, map, set, sym, ap, ◌∙◌, refl, arith}
use Rattle.std.specs.Prelude.{slice_get, Option, Some, None}
use Rattle.std.specs.Option.{option_map}
use Rattle.std.proofs.lemmas.Bool.{cases_lt}
use Rattle.std.proofs.lemmas.List.{drop-set-lt, take-set-le, drop-set-add, map-set}
use Rattle.std.proofs.Math.Seq.{take-set-lt}
use Rattle.st_model.specs.declared.oop.Oop.{Oop}
use Rattle.st_model.specs.Values.{Value, Ref, value}
use Rattle.st_model.specs.Objects.{with_field, object_with_unit}
use Rattle.st_model.specs.Table.{Table, changed}
use Rattle.st_model.specs.View.{with_stored, with_unit}
use Rattle.st_plain.specs.declared.entry.Entry.{Entry}
use Rattle.st_plain.specs.inside.Lists.{entry_object, listed_table, entry_of, AllApart}
use Rattle.st_plain.proofs.Slots.{slice_get-slot, slot-entry_of, entry-slot, object_of-listed}
use Rattle.st_heap.proofs.Changing.{changed-set}

-- a store inside a run is a store into what is taken of it
run-set_inside : {A : Type 0} (n a k : ℕ) (xs : List A) (v : A) → k < n → take n (drop a (set xs (a + k) v)) ≡ set (take n (drop a xs)) k v
run-set_inside n a k xs v h = ap (take n) (drop-set-add a xs k v) ∙ take-set-lt n (drop a xs) k v h

-- a store before or after a run leaves it
run-set_outside : {A : Type 0} (n a p : ℕ) (xs : List A) (v : A) → (a ≤ p → p < a + n → ⊥) → take n (drop a (set xs p v)) ≡ take n (drop a xs)
run-set_outside n a p xs v out = elim (cases_lt p a) [
  | inl before ↦ ap (take n) (drop-set-lt a xs p v before)
  | inr from ↦ elim (cases_lt p (a + n)) [
    | inl within ↦ absurd (out from within)
    | inr past ↦
        let e : p ≡ a + (p - a) = omega arith in
        let past' : n ≤ p - a = omega arith in
        ap (λ q. take n (drop a (set xs q v))) e ∙ ap (take n) (drop-set-add a xs (p - a) v) ∙ take-set-le n (drop a xs) (p - a) v past'
  ]
]

-- a list in which f and g differ at place i alone
map-set_at : {A B : Type 0} (f g : A → B) (xs : List A) (i : ℕ) (x : A) (y : B) → slice_get xs i ≡ Some x → g x ≡ y → ((j : ℕ) (z : A) → j ≢ i → slice_get xs j ≡ Some z → g z ≡ f z) → map g xs ≡ set (map f xs) i y
map-set_at f g [] i x y h e same = cc
map-set_at f g (a ∷ xs) zero x y h e same =
    let here : a ≡ x = cc in
    λ i. (ap g here ∙ e) i ∷ rest xs (λ j z r. same (suc j) z (λ q. absurd (omega (arith, q))) r) i
  where
    rest : (ys : List _) → ((j : ℕ) (z : _) → slice_get ys j ≡ Some z → g z ≡ f z) → map g ys ≡ map f ys
    rest [] s = refl
    rest (b ∷ ys) s = λ i. s zero b refl i ∷ rest ys (λ j z r. s (suc j) z r) i
map-set_at f g (a ∷ xs) (suc i) x y h e same =
    λ t. same zero a (λ q. absurd (omega (arith, q))) refl t ∷ map-set_at f g xs i x y h e (λ j z ne r. same (suc j) z (λ q. ne (omega (arith, q))) r) t

module _ (p : List Oop) (u : List ℕ) (es : List (Option Entry)) (apart : AllApart es) (i : ℕ) (e : Entry) (at : slice_get es i ≡ Some (Some e)) (k : ℕ) where
  -- a store into field k of the entry at place i
  listed-set_field : (v : Oop) → k < e.fields → listed_table (set p (e.fields_at + k) v) u es ≡ set (listed_table p u es) i (Some (with_field (entry_object p u e) k (value v)))
  listed-set_field v within =
      map-set_at (option_map (entry_object p u)) (option_map (entry_object (set p (e.fields_at + k) v) u)) es i (Some e) _ at
      (λ t. Some (record { class = e.class.0 / 2; kind = e.kind; fields = fields t; units = take e.units (drop e.units_at u) }))
      others
    where
      fields : map value (take e.fields (drop e.fields_at (set p (e.fields_at + k) v))) ≡ set (map value (take e.fields (drop e.fields_at p))) k (value v)
      fields = ap (map value) (run-set_inside e.fields e.fields_at k p v within) ∙ map-set value (take e.fields (drop e.fields_at p)) k v

      others : (j : ℕ) (z : Option Entry) → j ≢ i → slice_get es j ≡ Some z → option_map (entry_object (set p (e.fields_at + k) v) u) z ≡ option_map (entry_object p u) z
      others j None ne there = refl
      others j (Some d) ne there = λ t. Some (record { class = d.class.0 / 2; kind = d.kind; fields = map value (run-set_outside d.fields d.fields_at (e.fields_at + k) p v (λ low high. (apart j i d e ne there at).fields (e.fields_at + k) low high (omega arith) (omega arith)) t); units = take d.units (drop d.units_at u) })

  -- a store into unit k of the entry at place i
  listed-set_unit : (v : ℕ) → k < e.units → listed_table p (set u (e.units_at + k) v) es ≡ set (listed_table p u es) i (Some (object_with_unit (entry_object p u e) k v))
  listed-set_unit v within =
      map-set_at (option_map (entry_object p u)) (option_map (entry_object p (set u (e.units_at + k) v))) es i (Some e) _ at
      (λ t. Some (record { class = e.class.0 / 2; kind = e.kind; fields = map value (take e.fields (drop e.fields_at p)); units = run-set_inside e.units e.units_at k u v within t }))
      others
    where
      others : (j : ℕ) (z : Option Entry) → j ≢ i → slice_get es j ≡ Some z → option_map (entry_object p (set u (e.units_at + k) v)) z ≡ option_map (entry_object p u) z
      others j None ne there = refl
      others j (Some d) ne there = λ t. Some (record { class = d.class.0 / 2; kind = d.kind; fields = map value (take d.fields (drop d.fields_at p)); units = run-set_outside d.units d.units_at (e.units_at + k) u v (λ low high. (apart j i d e ne there at).units (e.units_at + k) low high (omega arith) (omega arith)) t })

module _ (p : List Oop) (u : List ℕ) (es : List (Option Entry)) (x : Value) (e : Entry) (k : ℕ) (at : entry_of es x ≡ Some e) (apart : AllApart es) where
  abbrev t : Table
  t = listed_table p u es

  pub store_field : (v : Oop) → k < e.fields → listed_table (set p (e.fields_at + k) v) u es ≡ with_stored t x k (value v)
  unfolding with_stored entry_of
  store_field v within =
      let r = slot-entry_of es x e at in
      let i = r.0 in
      let o = with_field (entry_object p u e) k (value v) in
      listed-set_field p u es apart i e (slice_get-slot es i e r.2) k v within
      ∙ sym (changed-set t i (entry_object p u e) o (entry-slot p u es i e r.2))
      ∙ ap (λ b. changed t i (with_field b k (value v))) (sym (object_of-listed p u es (Ref i) e r.2))
      ∙ ap (λ y. with_stored t y k (value v)) (sym r.1)

  pub store_unit : (v : ℕ) → k < e.units → listed_table p (set u (e.units_at + k) v) es ≡ with_unit t x k v
  unfolding with_unit entry_of
  store_unit v within =
      let r = slot-entry_of es x e at in
      let i = r.0 in
      let o = object_with_unit (entry_object p u e) k v in
      listed-set_unit p u es apart i e (slice_get-slot es i e r.2) k v within
      ∙ sym (changed-set t i (entry_object p u e) o (entry-slot p u es i e r.2))
      ∙ ap (λ b. changed t i (object_with_unit b k v)) (sym (object_of-listed p u es (Ref i) e r.2))
      ∙ ap (λ y. with_unit t y k v) (sym r.1)
