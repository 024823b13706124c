-- What the words of an object are once one of them was changed.
use Rattle.std.proofs.Common.{◌≡◌, ◌≢◌, ℕ, zero, suc, ◌+◌, ◌^◌, ◌<◌, List, [], ◌∷◌, length, get_or, subst, Option, Some, None, is_some, true, refl, sym, ap, ◌∙◌, arith, inl, inr}
use Rattle.std.specs.Prelude.{slice_get, unwrap_or}
use Rattle.st_model.specs.declared.kind.Kind.{Kind}
use Rattle.st_model.specs.declared.kind.Kind.TheVariants as kind
use Rattle.st_model.specs.Values.{Value, Small, Ref}
use Rattle.st_model.specs.Objects.{Object, is_words, size_of, first_unit}
use Rattle.st_model.specs.View.{View, IsWhole, nothing, is_live, object_of}
use Rattle.st_model.specs.Formed.{IsFormed, unit_limit}
use Rattle.st_model.specs.Machine.{is_there}
use Rattle.st_model.specs.Table.{Table, table, entry}
use Rattle.st_model.specs.Pixels.{AllFit}
use Rattle.st_model.proofs.Transfers.{same_or_not}
use Rattle.st_model.proofs.KindTests.{words_fields}
use Rattle.st_memory.specs.inside.Copied.{with_units_in}
use Rattle.st_memory.proofs.Laying.{live_in, object_here, object_other, units_again, units_none}
use Rattle.st_memory.proofs.Bodies.{no_fields}
use Rattle.st_bitblt.specs.inside.Reading.{HasWordsIn}
use Rattle.st_bitblt.specs.inside.Words.{words, HasWords, with_words}

sized : (o : Object) → is_words o.kind ≡ true → size_of o ≡ first_unit o + length o.units
sized o e = sized_at o o.kind refl e
  where
    sized_at : (o : Object) (k : Kind) → o.kind ≡ k → is_words k ≡ true → size_of o ≡ first_unit o + length o.units
    sized_at o kind.Pointers q e = cc
    sized_at o kind.Words q e = rw q refl
    sized_at o kind.Bytes q e = cc
    sized_at o kind.Method q e = cc

-- a word of an object is one of its size
pub word_in : (v : View) (o : Value) (at : ℕ) → HasWords v o → at < length (words v o) → at < size_of (object_of v.objects o)
word_in v o at has l = let s = sized (object_of v.objects o) has.kind in omega (arith, s, l)

module _ (v : View) (o : Value) (us : List ℕ) (live : is_live v.objects o ≡ true) where
  pub words_here : words (with_words v o us) o ≡ us
  words_here = ap (λ (x : Object). x.units) (object_here v.objects o us live)

  pub words_other : (p : Value) → p ≢ o → words (with_words v o us) p ≡ words v p
  words_other p d = ap (λ (x : Object). x.units) (object_other v.objects o us p d)

  kind_in : (p : Value) → (object_of (with_units_in v.objects o us) p).kind ≡ (object_of v.objects p).kind
  kind_in p = elim (same_or_not p o) [
    | inl e ↦ rw e (ap (λ (x : Object). x.kind) (object_here v.objects o us live))
    | inr d ↦ ap (λ (x : Object). x.kind) (object_other v.objects o us p d)
  ]

  pub words_there : (p : Value) → HasWords v p → HasWords (with_words v o us) p
  words_there p has = record { live = live_in v.objects o us p ∙ has.live; kind = ap is_words (kind_in p) ∙ has.kind }

  pub words_twice : (vs : List ℕ) → with_words (with_words v o us) o vs ≡ with_words v o vs
  words_twice vs = ap (λ t. record { objects = t; held = v.held; head = v.head }) (units_again v.objects o us vs live)

-- an object with the words that it has
pub words_same : (v : View) (o : Value) → is_live v.objects o ≡ true → v ≡ with_words v o (words v o)
words_same v o live = ap (λ t. record { objects = t; held = v.held; head = v.head }) (sym (units_none v.objects o live))

-- an object of kind Words has no fields, and so is as large as it has words
pub size_of_words : (v : View) (o : Value) → IsWhole v → HasWords v o → size_of (object_of v.objects o) ≡ length (words v o)
size_of_words v o whole has =
    let s = sized (object_of v.objects o) has.kind in
    let z = no_fields o whole has.live (words_fields (object_of v.objects o).kind has.kind) in
    omega (arith, s, z)

pub has_words : (v : View) (o : Value) (n : ℕ) → HasWordsIn v.objects o n → HasWords v o
has_words v o n h = record { live = h.live; kind = h.kind }

pub live_there : (t : Table) (o : Value) → is_live t o ≡ true → is_there table t o ≡ true
unfolding is_live
live_there t (Small n) e = cc
live_there t (Ref n) e = e

-- all words are of 16 bits
pub words_fit : (v : View) (o : Value) → IsWhole v → HasWords v o → AllFit (words v o)
unfolding is_live object_of
words_fit v o whole has k = at_most (words v o) k (λ u e. subst (λ n. u < n) (limit (object_of v.objects o).kind has.kind) (units_small v o whole has.live k u e))
  where
    limit : (k : Kind) → is_words k ≡ true → unit_limit k ≡ 65536
    limit kind.Pointers e = cc
    limit kind.Words e = refl
    limit kind.Bytes e = cc
    limit kind.Method e = cc

    units_at : (e : Option Object) → ((p : Object) → e ≡ Some p → IsFormed p) → is_some e ≡ true → IsFormed (unwrap_or e nothing)
    units_at None all live = cc
    units_at (Some p) all live = all p refl

    units_small : (v : View) (o : Value) → IsWhole v → is_live v.objects o ≡ true → (i u : ℕ) → slice_get (words v o) i ≡ Some u → u < unit_limit (object_of v.objects o).kind
    units_small v (Small n) whole live = cc
    units_small v (Ref n) whole live = (units_at (entry v.objects n) (whole.formed n) live).units

    at_most : (us : List ℕ) (k : ℕ) → ((u : ℕ) → slice_get us k ≡ Some u → u < 65536) → get_or us k 0 < 2 ^ 16
    at_most [] k h = omega arith
    at_most (u ∷ us) zero h = let l = h u refl in omega (arith, l)
    at_most (u ∷ us) (suc k) h = at_most us k h
