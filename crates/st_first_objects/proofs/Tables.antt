-- Tables in which a free place is given an object, whose parts are then stored.
use Rattle.std.proofs.Common.{◌≡◌, ◌≢◌, ℕ, zero, suc, ◌+◌, ◌<◌, ◌≤◌, [], ◌∷◌, List, length, true, get_or, replicate, Some, refl, sym, ap, ◌∙◌, arith}
use Rattle.std.specs.Prelude.{slice_set, slice_get}
use Rattle.std.proofs.lemmas.List.{set-set}
use Rattle.st_model.specs.Values.{Value, Ref}
use Rattle.st_model.specs.Objects.{Object, with_field, object_with_unit}
use Rattle.st_model.specs.Table.{Table, entry, changed}
use Rattle.st_model.specs.View.{View, is_live, object_of, with_object, with_stored, with_unit}
use Rattle.st_first_objects.specs.inside.Placing.{Puts, filled}
use Rattle.st_model.proofs.Entries.{entry-set_same, changed-set}

-- VIEWS

-- where an object was put it is
module _ (v w : View) (k : ℕ) (o : Object) (inside : k < length v.objects) (p : Puts v w k o) where
  pub put_entry : entry w.objects k ≡ Some o
  unfolding with_object
  put_entry = rw p.objects (entry-set_same v.objects k (Some o) inside)

  pub put_live : (x : Value) → x ≡ Ref k → is_live w.objects x ≡ true
  unfolding is_live
  put_live x e = rw (e, put_entry) refl

  pub put_object : (x : Value) → x ≡ Ref k → object_of w.objects x ≡ o
  unfolding object_of
  put_object x e = rw (e, put_entry) refl

-- another object in its place
again : (u v w : View) (k : ℕ) (o p : Object) → Puts u v k o → w.objects ≡ slice_set v.objects k (Some p) → w.held ≡ v.held → w.head ≡ v.head → Puts u w k p
unfolding with_object
again u v w k o p a objects held head = record {
  objects = objects ∙ (ap (λ (t : Table). slice_set t k (Some p)) a.objects ∙ set-set u.objects k (Some o) (Some p));
  held = held ∙ a.held;
  head = head ∙ a.head;
}

pub put_field : (u v w : View) (x : Value) (k : ℕ) (o : Object) (i : ℕ) (y : Value) → k < length u.objects → x ≡ Ref k → Puts u v k o
    → w.objects ≡ with_stored v.objects x i y → w.held ≡ v.held → w.head ≡ v.head → Puts u w k (with_field o i y)
unfolding with_stored
put_field u v w x k o i y inside e a objects held head =
    let is : with_stored v.objects (Ref k) i y ≡ slice_set v.objects k (Some (with_field o i y)) =
    ap (λ (b : Object). changed v.objects k (with_field b i y)) (put_object u v k o inside a (Ref k) refl)
    ∙ changed-set v.objects k o (with_field o i y) (put_entry u v k o inside a) in
    again u v w k o (with_field o i y) a (objects ∙ ap (λ (z : Value). with_stored v.objects z i y) e ∙ is) held head

pub put_unit : (u v w : View) (x : Value) (k : ℕ) (o : Object) (i y : ℕ) → k < length u.objects → x ≡ Ref k → Puts u v k o
    → w.objects ≡ with_unit v.objects x i y → w.held ≡ v.held → w.head ≡ v.head → Puts u w k (object_with_unit o i y)
unfolding with_unit
put_unit u v w x k o i y inside e a objects held head =
    let is : with_unit v.objects (Ref k) i y ≡ slice_set v.objects k (Some (object_with_unit o i y)) =
    ap (λ (b : Object). changed v.objects k (object_with_unit b i y)) (put_object u v k o inside a (Ref k) refl)
    ∙ changed-set v.objects k o (object_with_unit o i y) (put_entry u v k o inside a) in
    again u v w k o (object_with_unit o i y) a (objects ∙ ap (λ (z : Value). with_unit v.objects z i y) e ∙ is) held head

pub put_first : (v w : View) (x : Value) (k : ℕ) (o p : Object) → x ≡ Ref k → w.objects ≡ with_object v.objects x o → o ≡ p → w.held ≡ v.held → w.head ≡ v.head → Puts v w k p
put_first v w x k o p e objects same held head = record {
  objects = objects ∙ ap (λ (y : Value). with_object v.objects y o) e ∙ ap (with_object v.objects (Ref k)) same;
  held = held;
  head = head;
}

-- LISTS THAT ARE FILLED

pub filled_none : {A : Type 0} (d : A) (xs : List A) → replicate (length xs) d ≡ filled d xs 0
filled_none d [] = refl
filled_none d (x ∷ xs) = ap (λ (ys : List _). d ∷ ys) (filled_none d xs)

pub filled_all : {A : Type 0} (d : A) (xs : List A) (n : ℕ) → length xs ≤ n → filled d xs n ≡ xs
filled_all d [] n le = refl
filled_all d (x ∷ xs) zero le = absurd (omega arith)
filled_all d (x ∷ xs) (suc n) le = ap (λ (ys : List _). x ∷ ys) (filled_all d xs n (omega arith))

pub filled_length : {A : Type 0} (d : A) (xs : List A) (n : ℕ) → length (filled d xs n) ≡ length xs
filled_length d [] n = refl
filled_length d (x ∷ xs) zero = ap suc (filled_length d xs zero)
filled_length d (x ∷ xs) (suc n) = ap suc (filled_length d xs n)

pub filled_more : {A : Type 0} (d : A) (xs : List A) (n : ℕ) (x : A) → slice_get xs n ≡ Some x → slice_set (filled d xs n) n x ≡ filled d xs (suc n)
filled_more d [] n x e = cc
filled_more d (y ∷ xs) zero x e = let s : y ≡ x = cc in ap (λ z. z ∷ filled d xs 0) (sym s)
filled_more d (y ∷ xs) (suc n) x e = ap (λ (ys : List _). y ∷ ys) (filled_more d xs n x e)

pub filled_next : {A : Type 0} (d e : A) (xs : List A) (n : ℕ) → n < length xs → slice_set (filled d xs n) n (get_or xs n e) ≡ filled d xs (n + 1)
filled_next d e [] n lt = absurd (omega arith)
filled_next d e (x ∷ xs) zero lt = refl
filled_next d e (x ∷ xs) (suc n) lt =
    let m : suc n + 1 ≡ suc (n + 1) = omega arith in
    ap (λ (ys : List _). x ∷ ys) (filled_next d e xs n (omega arith)) ∙ sym (ap (filled d (x ∷ xs)) m)

pub put_unit_at : (u v w : View) (x : Value) (k : ℕ) (o : Object) (i j y : ℕ) → k < length u.objects → x ≡ Ref k → Puts u v k o
    → w.objects ≡ with_unit v.objects x j y → j ≡ i → w.held ≡ v.held → w.head ≡ v.head → Puts u w k (object_with_unit o i y)
put_unit_at u v w x k o i j y inside e a objects same held head =
    put_unit u v w x k o i y inside e a (objects ∙ ap (λ n. with_unit v.objects x n y) same) held head
