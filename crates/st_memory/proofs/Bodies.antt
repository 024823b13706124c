-- How long the two parts of an object's body are, by its kind.
use Rattle.std.proofs.Common.{◌≡◌, ℕ, zero, suc, ◌+◌, ◌*◌, ◌/◌, ◌<◌, ◌≤◌, true, false, List, [], ◌∷◌, length, refl, sym, ap, ◌∙◌, arith, Bool}
use Rattle.std.specs.Prelude.{slice_get, Option, Some, None, is_some, unwrap_or, if◌then◌else◌, ◌%◌, ◌==◌}
use Rattle.st_model.specs.declared.kind.Kind.{Kind}
use Rattle.st_model.specs.declared.kind.Kind.TheVariants as kind
use Rattle.st_model.specs.Values.{Value, Small, Ref, value_of, is_small}
use Rattle.st_model.proofs.Words.{is_small-value_of}
use Rattle.std.proofs.lemmas.Bool.Decides.{nat_tests}
use Rattle.st_model.specs.Objects.{Object, holds_fields, is_pointers, is_words, size_of}
use Rattle.st_model.specs.Table.{Table, entry}
use Rattle.st_model.specs.Formed.{IsFormed}
use Rattle.st_model.specs.View.{View, IsWhole, is_live, object_of, nothing}
use Rattle.st_model.proofs.KindTests.{words_fields}

formed_entry : (e : Option Object) → ((o : Object) → e ≡ Some o → IsFormed o) → is_some e ≡ true → IsFormed (unwrap_or e nothing)
formed_entry None all live = cc
formed_entry (Some o) all live = all o refl

formed_object : (v : View) (x : Value) → IsWhole v → is_live v.objects x ≡ true → IsFormed (object_of v.objects x)
unfolding is_live object_of
formed_object v (Small n) whole live = cc
formed_object v (Ref n) whole live = formed_entry (entry v.objects n) (whole.formed n) live

pub no_fields : {v : View} (x : Value) → IsWhole v → is_live v.objects x ≡ true → holds_fields (object_of v.objects x).kind ≡ false → length (object_of v.objects x).fields ≡ 0
no_fields {v} x whole live kind = ap length ((formed_object v x whole live).fieldless kind)

pub no_units : {v : View} (x : Value) → IsWhole v → is_live v.objects x ≡ true → is_pointers (object_of v.objects x).kind ≡ true → length (object_of v.objects x).units ≡ 0
no_units {v} x whole live kind = ap length ((formed_object v x whole live).unitless kind)

most_words : (b : Bool) (f u : ℕ) → (b ≡ true → f ≡ 0) → (if b then 2 + u else 2 + f + (u + 1) / 2) ≤ 65535 → 2 * f + u ≤ 131066
most_words true f u none l = let z = none refl in omega (arith, z, l)
most_words false f u none l = omega (arith, l)

pub most_units : {v : View} (x : Value) → IsWhole v → is_live v.objects x ≡ true → 2 * length (object_of v.objects x).fields + length (object_of v.objects x).units ≤ 131066
most_units {v} x whole live =
    let o = object_of v.objects x in
    let formed = formed_object v x whole live in
    most_words (is_words o.kind) (length o.fields) (length o.units) (λ words. ap length (formed.fieldless (words_fields o.kind words))) formed.size

few_fields : (k : Kind) (f u : ℕ) → is_pointers k ≡ true → (if is_words k then 2 + u else 2 + f + (u + 1) / 2) ≤ 65535 → (if is_pointers k then f else 2 * f + u) ≤ 65533
few_fields kind.Pointers f u e l = omega (arith, l)
few_fields kind.Words f u e l = cc
few_fields kind.Bytes f u e l = cc
few_fields kind.Method f u e l = cc

-- an object of kind Pointers has no more fields than a body has words
pub most_fields : {v : View} (x : Value) → IsWhole v → is_live v.objects x ≡ true → is_pointers (object_of v.objects x).kind ≡ true → size_of (object_of v.objects x) ≤ 65533
most_fields {v} x whole live kind =
    let o = object_of v.objects x in
    few_fields o.kind (length o.fields) (length o.units) kind (formed_object v x whole live).size

pub live_small : (t : Table) (v : Value) → is_live t v ≡ true → is_small v ≡ false
unfolding is_live
live_small t (Small n) live = cc
live_small t (Ref n) live = refl

-- the pointer of an object is even
pub even_pointer : (t : Table) (w : ℕ) → is_live t (value_of w) ≡ true → 2 * (w / 2) ≡ w
even_pointer t w live =
    let b : (w % 2 == 1) ≡ false = sym (is_small-value_of w) ∙ live_small t (value_of w) live in
    grind (arith, nat_tests)

pub ruleset bodies = (no_fields, no_units, most_units)

-- lists and tables

pub got_below : {A : Type 0} (xs : List A) (i : ℕ) (x : A) → slice_get xs i ≡ Some x → i < length xs
got_below [] i x e = cc
got_below (y ∷ xs) zero x e = omega arith
got_below (y ∷ xs) (suc i) x e = let l = got_below xs i x e in omega (arith, l)

pub same_table : (t u : Table) → length t ≡ length u → ((j : ℕ) → entry t j ≡ entry u j) → t ≡ u
same_table [] [] l f = refl
same_table [] (b ∷ u) l f = absurd (omega (arith, l))
same_table (a ∷ t) [] l f = absurd (omega (arith, l))
same_table (a ∷ t) (b ∷ u) l f = λ i. f 0 i ∷ same_table t u (omega (arith, l)) (λ j. f (suc j)) i
