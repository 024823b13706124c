-- What is looked at in two tables whose objects are alike, and what an answer says of the object.
use Rattle.std.proofs.Common.{◌≡◌, ℕ, ◌<◌, Bool, true, false, length, refl, sym, ap, ◌∙◌, arith, is_some}
use Rattle.std.specs.Prelude.{slice_get, unwrap_or, Option, Some, None}
use Rattle.st_model.specs.declared.dead.Dead.{Dead}
use Rattle.st_model.specs.declared.dead.Dead.TheVariants as dead
use Rattle.st_model.specs.declared.kind.Kind.{Kind}
use Rattle.st_model.specs.Values.{Value, Small, Ref}
use Rattle.st_model.specs.Objects.{Object, is_pointers, is_method}
use Rattle.st_model.specs.Machine.{Died, Went}
use Rattle.st_model.specs.Table.{Table, entry}
use Rattle.st_model.specs.View.{nothing, is_live, object_of}
use Rattle.st_draft.specs.inside.Drafts.{HasField, IsLike, AreLike, field_value, named_object}
use Rattle.st_model.proofs.KindTests.{method_pointers}
use Rattle.st_memory.proofs.Looking.{or_got, checked, looked, look_at, class_in, class_look}

-- the same is seen where the objects are alike

pub data Alike (a b : Option Object) : Type 0 where
  neither : a ≡ None → b ≡ None → Alike a b
  both : (x y : Object) → a ≡ Some x → b ≡ Some y → IsLike x y → Alike a b

pub alike_named : (t u : Table) (v : Value) → AreLike t u → Alike (named_object t v) (named_object u v)
unfolding is_live object_of
alike_named t u (Small n) like = neither refl refl
alike_named t u (Ref n) like = by_entry (entry t n) (entry u n) (like.live (Ref n)) (like.objects (Ref n))
  where
    by_entry : (a b : Option Object) → is_some a ≡ is_some b → IsLike (unwrap_or a nothing) (unwrap_or b nothing) → Alike a b
    by_entry None None e l = neither refl refl
    by_entry None (Some y) e l = cc
    by_entry (Some x) None e l = cc
    by_entry (Some x) (Some y) e l = both x y refl refl l

module _ {A : Type 0} (test : Kind → Bool) (f : Object → Option A) (cause : Dead) where
  pub look_same : (t u : Table) (v : Value) → named_object t v ≡ named_object u v → look_at test f cause v t ≡ look_at test f cause v u
  look_same t u (Small n) e = refl
  look_same t u (Ref n) e = ap (looked test f cause) e

  checked_alike : (b : Bool) (x y : Object) → test y.kind ≡ b → (test y.kind ≡ true → f x ≡ f y) → checked b (or_got cause (f x)) ≡ checked b (or_got cause (f y))
  checked_alike true x y e same = ap (or_got cause) (same e)
  checked_alike false x y e same = refl

  looked_alike : (a b : Option Object) → ((x y : Object) → IsLike x y → test y.kind ≡ true → f x ≡ f y) → Alike a b → looked test f cause a ≡ looked test f cause b
  looked_alike a b same (neither p q) = ap (looked test f cause) (p ∙ sym q)
  looked_alike a b same (both x y p q like) =
      ap (looked test f cause) p
      ∙ ap (λ k. checked (test k) (or_got cause (f x))) like.kind
      ∙ checked_alike (test y.kind) x y refl (same x y like)
      ∙ sym (ap (looked test f cause) q)

  pub look_alike : (t u : Table) (v : Value) → ((x y : Object) → IsLike x y → test y.kind ≡ true → f x ≡ f y) → AreLike t u → look_at test f cause v t ≡ look_at test f cause v u
  look_alike t u (Small n) same like = refl
  look_alike t u (Ref n) same like = looked_alike (entry t n) (entry u n) same (alike_named t u (Ref n) like)

-- methods that are alike are the same
pub method_same : {A : Type 0} (f : Object → Option A) (x y : Object) → IsLike x y → is_method y.kind ≡ true → f x ≡ f y
method_same f x y like m = ap f (like.same (method_pointers y.kind m))

pub count_same : (x y : Object) → IsLike x y → is_pointers y.kind ≡ true → ◌≡◌ {A = Option ℕ} (Some (length x.fields)) (Some (length y.fields))
count_same x y like p = ap (λ n. Some n) like.count

class_alike : (a b : Option Object) → Alike a b → class_in a ≡ class_in b
class_alike a b (neither p q) = ap class_in (p ∙ sym q)
class_alike a b (both x y p q like) = ap class_in p ∙ ap (λ n. Went (Ref n) tt) like.class ∙ sym (ap class_in q)

pub class_look_alike : (t u : Table) (v : Value) → AreLike t u → class_look v t ≡ class_look v u
class_look_alike t u (Small n) like = refl
class_look_alike t u (Ref n) like = class_alike (entry t n) (entry u n) (alike_named t u (Ref n) like)

pub class_look_same : (t u : Table) (v : Value) → named_object t v ≡ named_object u v → class_look v t ≡ class_look v u
class_look_same t u (Small n) e = refl
class_look_same t u (Ref n) e = ap class_in e

-- what an answer says of the object

got_count : (e : Option Object) (n : ℕ) → looked is_pointers (λ o. Some (length o.fields)) dead.Field e ≡ Went n tt → (is_pointers (unwrap_or e nothing).kind ≡ true) × (length (unwrap_or e nothing).fields ≡ n) × (is_some e ≡ true)
got_count None n h = cc
got_count (Some o) n h = by_kind (is_pointers o.kind) refl h
  where
    by_kind : (b : Bool) → is_pointers o.kind ≡ b → checked b (Went (length o.fields) tt) ≡ Went n tt → (is_pointers o.kind ≡ true) × (length o.fields ≡ n) × (true ≡ true)
    by_kind true e h = let q : length o.fields ≡ n = cc in (e, q, refl)
    by_kind false e h = cc

pub counted : (t : Table) (v : Value) (n : ℕ) → look_at is_pointers (λ o. Some (length o.fields)) dead.Field v t ≡ Went n tt → (is_pointers (object_of t v).kind ≡ true) × (length (object_of t v).fields ≡ n) × (is_live t v ≡ true)
unfolding object_of is_live
counted t (Small k) n h = cc
counted t (Ref k) n h = got_count (entry t k) n h

not_counted : (e : Option Object) (c : Dead) → looked is_pointers (λ o. Some (length o.fields)) dead.Field e ≡ Died c → is_pointers (unwrap_or e nothing).kind ≡ true → 0 < length (unwrap_or e nothing).fields → ⊥
not_counted None c h p l = absurd (omega (arith, l))
not_counted (Some o) c h p l = by_kind (is_pointers o.kind) p h
  where
    by_kind : (b : Bool) → b ≡ true → checked b (Went (length o.fields) tt) ≡ Died c → ⊥
    by_kind true e g = cc
    by_kind false e g = cc

-- where no fields are counted there is no field
pub uncounted : (t : Table) (v : Value) (i : ℕ) (c : Dead) → look_at is_pointers (λ o. Some (length o.fields)) dead.Field v t ≡ Died c → HasField t v i → ⊥
unfolding object_of
uncounted t (Small k) i c h has = let l = has.place in absurd (omega (arith, l))
uncounted t (Ref k) i c h has = not_counted (entry t k) c h has.pointers (let l = has.place in omega (arith, l))

-- a field is not fetched for the cause for which the fields can't be counted
died_alike : (e : Option Object) (i : ℕ) (c : Dead) → looked is_pointers (λ o. Some (length o.fields)) dead.Field e ≡ Died c → looked is_pointers (λ o. slice_get o.fields i) dead.Field e ≡ Died c
died_alike None i c h = let q : dead.Kind ≡ c = cc in ap (λ k. Died k) q
died_alike (Some o) i c h = by_kind (is_pointers o.kind) h
  where
    by_kind : (b : Bool) → checked b (Went (length o.fields) tt) ≡ Died c → checked b (or_got dead.Field (slice_get o.fields i)) ≡ Died c
    by_kind true g = cc
    by_kind false g = let q : dead.Kind ≡ c = cc in ap (λ k. Died k) q

pub fetch_died : (t : Table) (v : Value) (i : ℕ) (c : Dead) → look_at is_pointers (λ o. Some (length o.fields)) dead.Field v t ≡ Died c → look_at is_pointers (λ o. slice_get o.fields i) dead.Field v t ≡ Died c
fetch_died t (Small k) i c h = let q : dead.Small ≡ c = cc in ap (λ d. Died d) q
fetch_died t (Ref k) i c h = died_alike (entry t k) i c h

fetched : (e : Option Object) (i : ℕ) → is_some e ≡ true → is_pointers (unwrap_or e nothing).kind ≡ true → looked is_pointers (λ o. slice_get o.fields i) dead.Field e ≡ or_got dead.Field (slice_get (unwrap_or e nothing).fields i)
fetched None i s p = cc
fetched (Some o) i s p = ap (λ b. checked b (or_got dead.Field (slice_get o.fields i))) p

-- what stands in a field of a live object of kind Pointers is what is fetched
pub fetch_is : (t : Table) (v : Value) (i : ℕ) → is_live t v ≡ true → is_pointers (object_of t v).kind ≡ true → look_at is_pointers (λ o. slice_get o.fields i) dead.Field v t ≡ or_got dead.Field (field_value t v i)
unfolding object_of is_live
fetch_is t (Small k) i s p = cc
fetch_is t (Ref k) i s p = fetched (entry t k) i s p
