-- What is read of a stretch of an object's words or bytes, and what stands in one while it is written.
use Rattle.std.proofs.Common.{◌≡◌, ℕ, zero, suc, ◌+◌, ◌*◌, ◌<◌, ◌≤◌, Bool, true, false, List, [], ◌∷◌, ◌++◌, length, take, drop, set, refl, sym, ap, ◌∙◌, arith}
use Rattle.std.specs.Prelude.{slice_get, Some, if◌then◌else◌}
use Rattle.std.proofs.Math.Seq.{take-suc-set}
use Rattle.st_model.specs.declared.kind.Kind.{Kind}
use Rattle.st_model.specs.declared.kind.Kind.TheVariants as kind
use Rattle.st_model.specs.Values.{Value}
use Rattle.st_model.specs.Objects.{Object, is_pointers, is_words, first_unit, size_of, with_units}
use Rattle.st_model.specs.Table.{Table}
use Rattle.st_model.specs.View.{View, IsWhole, is_live, object_of, with_unit}
use Rattle.st_model.proofs.FormedLemmas.{words_range}
use Rattle.st_model.proofs.WholeLemmas.{formed_live}
use Rattle.st_memory.specs.inside.Copied.{laid, with_units_in, with_run}
use Rattle.st_memory.proofs.Bodies.{most_units, no_units}
use Rattle.st_memory.proofs.Laying.{set_first, length-laid, taken_more, live_in, object_here, unit_again, units_none}

-- how many there are

at_most : (b : Bool) (f u : ℕ) → 2 * f + u ≤ 131066 → (if b then f else 2 * f + u) ≤ 131066
at_most true f u l = omega (arith, l)
at_most false f u l = l

pub most_size : {v : View} (x : Value) → IsWhole v → is_live v.objects x ≡ true → size_of (object_of v.objects x) ≤ 131066
most_size {v} x whole live =
    let o = object_of v.objects x in
    at_most (is_pointers o.kind) (length o.fields) (length o.units) (most_units x whole live)

-- one more is read
pub read_more : (us into : List ℕ) (at i w : ℕ) → i < length into → take i into ≡ take i (drop at us) → slice_get us (at + i) ≡ Some w → take (i + 1) (set into i w) ≡ take (i + 1) (drop at us)
read_more us into at i w l h got =
    let e : i + 1 ≡ suc i = omega arith in
    ap (λ k. take k (set into i w)) e ∙ take-suc-set into i w l ∙ ap (λ q. q ++ (w ∷ [])) h ∙ sym (taken_more us at i w got) ∙ sym (ap (λ k. take k (drop at us)) e)

-- one more is written

pub nothing_laid : (to : ℕ) (us : List ℕ) → laid to [] us ≡ us
nothing_laid zero us = refl
nothing_laid (suc to) [] = refl
nothing_laid (suc to) (u ∷ us) = ap (λ q. u ∷ q) (nothing_laid to us)

pub none_run : (t : Table) (v : Value) (to : ℕ) → is_live t v ≡ true → t ≡ with_run t v to []
none_run t v to live = sym (ap (with_units_in t v) (nothing_laid to (object_of t v).units) ∙ units_none t v live)

module _ (t u : Table) (v : Value) (to : ℕ) (ws : List ℕ) (live : is_live t v ≡ true) (is : u ≡ with_run t v to ws) where
  pub live_run : is_live u v ≡ true
  live_run = ap (λ w. is_live w v) is ∙ live_in t v (laid to ws (object_of t v).units) v ∙ live

  pub object_run : object_of u v ≡ with_units (object_of t v) (laid to ws (object_of t v).units)
  object_run = ap (λ w. object_of w v) is ∙ object_here t v (laid to ws (object_of t v).units) live

  pub kind_run : (object_of u v).kind ≡ (object_of t v).kind
  kind_run = ap (λ (o : Object). o.kind) object_run

  pub first_run : first_unit (object_of u v) ≡ first_unit (object_of t v)
  first_run = ap (λ (o : Object). first_unit o) object_run

  pub size_run : size_of (object_of u v) ≡ size_of (object_of t v)
  size_run =
      let o = object_of t v in
      ap (λ (o : Object). size_of o) object_run ∙ ap (λ n. if is_pointers o.kind then length o.fields else 2 * length o.fields + n) (length-laid to ws o.units)

  pub run_more : (w : Table) (x : ℕ) → to + length ws < length (object_of t v).units → w ≡ with_unit u v (to + length ws) x → w ≡ with_run t v to (ws ++ (x ∷ []))
  run_more w x l stored =
      stored ∙ ap (λ y. with_unit y v (to + length ws) x) is ∙ unit_again t v (laid to ws (object_of t v).units) (to + length ws) x live
      ∙ ap (with_units_in t v) (set_first to ws (object_of t v).units x l)

pub words_within : {v : View} (x : Value) (i : ℕ) → IsWhole v → is_live v.objects x ≡ true → is_words (object_of v.objects x).kind ≡ true → i < size_of (object_of v.objects x) → i < length (object_of v.objects x).units
words_within {v} x i whole live k l = words_range (object_of v.objects x) i (formed_live v whole x live) k l

below_units : (k : Kind) (f u i : ℕ) → is_words k ≡ false → (is_pointers k ≡ true → u ≡ 0) → 2 * f + i < (if is_pointers k then f else 2 * f + u) → i < u
below_units kind.Pointers f u i k none l = absurd (omega (arith, l))
below_units kind.Words f u i k none l = cc
below_units kind.Bytes f u i k none l = omega (arith, l)
below_units kind.Method f u i k none l = omega (arith, l)

pub bytes_within : {v : View} (x : Value) (i : ℕ) → IsWhole v → is_live v.objects x ≡ true → is_words (object_of v.objects x).kind ≡ false → first_unit (object_of v.objects x) + i < size_of (object_of v.objects x) → i < length (object_of v.objects x).units
bytes_within {v} x i whole live k l =
    let o = object_of v.objects x in
    below_units o.kind (length o.fields) (length o.units) i k (no_units x whole live) l
