-- The bytes of an object that are said.
use Rattle.std.proofs.Common.{◌≡◌, ℕ, ◌-◌, ◌≤◌, [], true, false, length, take, refl, sym, ap, ◌∙◌, arith}
use Rattle.std.proofs.lemmas.List.{take_all}
use Rattle.std.specs.Prelude.{slice_get, Option, Some, None, unwrap_or, is_some, ◌++◌, codes}
use Rattle.st_model.specs.declared.kind.Kind.{Kind}
use Rattle.st_model.specs.declared.kind.Kind.TheVariants as kind
use Rattle.st_model.specs.Values.{Value, Small, Ref}
use Rattle.st_model.specs.Objects.{Object, is_bytes, first_unit, size_of}
use Rattle.st_model.specs.Table.{Table, entry}
use Rattle.st_model.specs.View.{View, IsWhole, is_live, object_of, nothing}
use Rattle.st_model.specs.Text.{escaped, said_text}
use Rattle.st_memory.proofs.Bodies.{no_fields}
use Rattle.st_call.specs.inside.Saying.{said_in}
use Rattle.st_model.proofs.KindTests.{text_fields, text_pointers}

module _ {v : View} (whole : IsWhole v) (x : Value) (live : is_live v.objects x ≡ true) (kind : is_bytes (object_of v.objects x).kind ≡ true) where
  pub first_none : first_unit (object_of v.objects x) ≡ 0
  first_none = let f = no_fields x whole live (text_fields (object_of v.objects x).kind kind) in omega (arith, f)

  pub size_is : size_of (object_of v.objects x) ≡ length (object_of v.objects x).units
  size_is = rw (text_pointers (object_of v.objects x).kind kind) (let f = first_none in omega (arith, f))

  pub unit_is : (i b : ℕ) → slice_get (object_of v.objects x).units (i - first_unit (object_of v.objects x)) ≡ Some b → slice_get (object_of v.objects x).units i ≡ Some b
  unit_is i b e = let f = first_none in let z : i ≡ i - first_unit (object_of v.objects x) = omega (arith, f) in ap (slice_get (object_of v.objects x).units) z ∙ e

  pub all_bytes : (n : ℕ) → size_of (object_of v.objects x) ≤ n → escaped (take n (object_of v.objects x).units) ≡ escaped (object_of v.objects x).units
  all_bytes n l = let s = size_is in ap escaped (take_all n (object_of v.objects x).units (omega (arith, s, l)))

said_at : (e : Option Object) → is_some e ≡ true → is_bytes (unwrap_or e nothing).kind ≡ true → codes "say " ++ (escaped (unwrap_or e nothing).units ++ codes "\n") ≡ said_text e
said_at None live k = cc
said_at (Some o) live k = rw k refl

pub said_is : (t : Table) (x : Value) → is_live t x ≡ true → is_bytes (object_of t x).kind ≡ true → codes "say " ++ (escaped (object_of t x).units ++ codes "\n") ≡ said_in t x
unfolding is_live object_of
said_is t (Small n) live k = cc
said_is t (Ref n) live k = said_at (entry t n) live k

none_at : (e : Option Object) → (is_some e ≡ true → is_bytes (unwrap_or e nothing).kind ≡ false) → said_text e ≡ []
none_at None h = refl
none_at (Some o) h = rw (h refl) refl

pub none_said : (t : Table) (x : Value) → (is_live t x ≡ true → is_bytes (object_of t x).kind ≡ false) → [] ≡ said_in t x
unfolding is_live object_of
none_said t (Small n) h = refl
none_said t (Ref n) h = sym (none_at (entry t n) h)
