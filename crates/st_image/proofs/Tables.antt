-- Tables of objects in which one place is given an object.
use Rattle.std.proofs.Common.{◌≡◌, ℕ, suc, ◌<◌, [], ◌∷◌, length, true, Some, None, refl, sym, ap, ◌∙◌}
use Rattle.std.specs.Prelude.{slice_set}
use Rattle.std.proofs.lemmas.List.{set-set}
use Rattle.std.proofs.Math.ListN.{length-set}
use Rattle.st_model.specs.Values.{Value, Ref}
use Rattle.st_model.specs.Objects.{Object, with_field, object_with_unit}
use Rattle.st_model.specs.Table.{Table, entry, total_used}
use Rattle.st_model.specs.View.{View, is_live, object_of, with_object, with_stored, with_unit}
use Rattle.st_image.specs.inside.Loads.{IsAt, Puts}
use Rattle.st_model.proofs.Entries.{entry-set_same, changed-set, set-same}

pub total_used-none : (weight : Object → ℕ) (t : Table) → ((k : ℕ) → entry t k ≡ None) → total_used weight t ≡ 0
total_used-none weight [] free = refl
total_used-none weight (None ∷ t) free = total_used-none weight t (λ k. free (suc k))
total_used-none weight (Some a ∷ t) free = let e = free 0 in cc

-- VIEWS

pub live_at : (v : View) (x : Value) (k : ℕ) (o : Object) → x ≡ Ref k → IsAt v k o → is_live v.objects x ≡ true
unfolding is_live
live_at v x k o e at = rw (e, at.object) refl

pub object_at : (v : View) (x : Value) (k : ℕ) (o : Object) → x ≡ Ref k → IsAt v k o → object_of v.objects x ≡ o
unfolding object_of
object_at v x k o e at = rw (e, at.object) refl

pub puts_same : (v : View) (k : ℕ) (o : Object) → IsAt v k o → Puts v v k o
unfolding with_object
puts_same v k o at = record { objects = sym (set-same v.objects k o at.object); held = refl; head = refl }

pub at_puts : (v w : View) (k : ℕ) (o : Object) → k < length v.objects → Puts v w k o → IsAt w k o
unfolding with_object
at_puts v w k o k_in p = record {
  place = rw (p.objects, length-set v.objects k (Some o)) k_in;
  object = rw p.objects (entry-set_same v.objects k (Some o) k_in);
}

pub puts_puts : (u v w : View) (k : ℕ) (o p : Object) → Puts u v k o → Puts v w k p → Puts u w k p
unfolding with_object
puts_puts u v w k o p a b = record {
  objects = b.objects ∙ (ap (λ (t : Table). slice_set t k (Some p)) a.objects ∙ set-set u.objects k (Some o) (Some p));
  held = b.held ∙ a.held;
  head = b.head ∙ a.head;
}

pub puts_object : (v w : View) (x : Value) (k : ℕ) (o : Object) → x ≡ Ref k → w.objects ≡ with_object v.objects x o → w.held ≡ v.held → w.head ≡ v.head → Puts v w k o
puts_object v w x k o e objects held head = record { objects = objects ∙ ap (λ (y : Value). with_object v.objects y o) e; held = held; head = head }

stored_at : (v : View) (k : ℕ) (o : Object) (i : ℕ) (y : Value) → IsAt v k o → with_stored v.objects (Ref k) i y ≡ with_object v.objects (Ref k) (with_field o i y)
unfolding with_stored with_object
stored_at v k o i y at = rw (object_at v (Ref k) k o refl at) (changed-set v.objects k o (with_field o i y) at.object)

unit_at : (v : View) (k : ℕ) (o : Object) (i u : ℕ) → IsAt v k o → with_unit v.objects (Ref k) i u ≡ with_object v.objects (Ref k) (object_with_unit o i u)
unfolding with_unit with_object
unit_at v k o i u at = rw (object_at v (Ref k) k o refl at) (changed-set v.objects k o (object_with_unit o i u) at.object)

pub puts_field : (v w : View) (x : Value) (k : ℕ) (o : Object) (i : ℕ) (y : Value) → x ≡ Ref k → IsAt v k o
    → w.objects ≡ with_stored v.objects x i y → w.held ≡ v.held → w.head ≡ v.head → Puts v w k (with_field o i y)
puts_field v w x k o i y e at objects held head = record {
  objects = objects ∙ (ap (λ (z : Value). with_stored v.objects z i y) e ∙ stored_at v k o i y at);
  held = held;
  head = head;
}

pub puts_unit : (v w : View) (x : Value) (k : ℕ) (o : Object) (i u : ℕ) → x ≡ Ref k → IsAt v k o
    → w.objects ≡ with_unit v.objects x i u → w.held ≡ v.held → w.head ≡ v.head → Puts v w k (object_with_unit o i u)
puts_unit v w x k o i u e at objects held head = record {
  objects = objects ∙ (ap (λ (z : Value). with_unit v.objects z i u) e ∙ unit_at v k o i u at);
  held = held;
  head = head;
}

pub puts_unit_at : (v w : View) (x : Value) (k : ℕ) (o : Object) (i u j y : ℕ) → x ≡ Ref k → IsAt v k o
    → w.objects ≡ with_unit v.objects x j y → j ≡ i → y ≡ u → w.held ≡ v.held → w.head ≡ v.head → Puts v w k (object_with_unit o i u)
puts_unit_at v w x k o i u j y e at objects place byte held head =
    puts_unit v w x k o i u e at (objects ∙ (ap (λ (n : ℕ). with_unit v.objects x n y) place ∙ ap (λ (n : ℕ). with_unit v.objects x i n) byte)) held head
