-- Names compared, one byte after the other.
use Rattle.std.proofs.Common.{◌≡◌, ℕ, zero, suc, ◌+◌, ◌-◌, ◌<◌, ◌≤◌, List, [], ◌∷◌, length, drop, Some, refl, sym, ap, ◌∙◌, subst, arith}
use Rattle.std.specs.Prelude.{slice_get, min}
use Rattle.std.specs.declared.cmp.Ordering.{Ordering}
use Rattle.std.specs.declared.cmp.Ordering.TheVariants.{Less, Equal, Greater}
use Rattle.std.specs.Ordering.{is_eq, nat_cmp, ordering_then}
use Rattle.std.specs.Cmp.{nat_cmp_is}
use Rattle.std.proofs.lemmas.Map.Text.{is_eq-slice_cmp}
use Rattle.st_model.specs.Values.{Value}
use Rattle.st_model.specs.Objects.{size_of, first_unit}
use Rattle.st_model.specs.Table.{Table}
use Rattle.st_scope.specs.Tables.{is_text}
use Rattle.st_scope.specs.Texts.{text_at}
use Rattle.st_model.specs.View.{View, IsWhole, object_of}
use Rattle.st_call.proofs.Escaping.{first_none, size_is, unit_is}
use Rattle.st_browse.specs.Naming.{compared}
use Rattle.st_browse.specs.inside.Entries.{IsName}

turn : (us vs : List ℕ) (i a b : ℕ) → slice_get us i ≡ Some a → slice_get vs i ≡ Some b
    → compared (drop i us) (drop i vs) ≡ ordering_then (nat_cmp a b) (compared (drop (suc i) us) (drop (suc i) vs))
turn [] vs i a b e f = cc
turn (u ∷ us) [] i a b e f = cc
turn (u ∷ us) (v ∷ vs) zero a b e f = let q : u ≡ a = cc in let r : v ≡ b = cc in rw (q, r) refl
turn (u ∷ us) (v ∷ vs) (suc i) a b e f = turn us vs i a b e f

module _ (us vs : List ℕ) (i a b : ℕ) (e : slice_get us i ≡ Some a) (f : slice_get vs i ≡ Some b) (same : compared (drop i us) (drop i vs) ≡ compared us vs) where
  pub is_less : a < b → Less ≡ compared us vs
  is_less l = let q : Less ≡ nat_cmp a b = nat_cmp_is a b Less l in sym (sym same ∙ (turn us vs i a b e f ∙ ap (λ o. ordering_then o (compared (drop (suc i) us) (drop (suc i) vs))) (sym q)))

  pub is_greater : b < a → Greater ≡ compared us vs
  is_greater l = let q : Greater ≡ nat_cmp a b = nat_cmp_is a b Greater l in sym (sym same ∙ (turn us vs i a b e f ∙ ap (λ o. ordering_then o (compared (drop (suc i) us) (drop (suc i) vs))) (sym q)))

  pub goes_on : b ≤ a → a ≤ b → compared (drop (i + 1) us) (drop (i + 1) vs) ≡ compared us vs
  goes_on l k =
      let q : Equal ≡ nat_cmp a b = nat_cmp_is a b Equal (omega (arith, l, k)) in
      let next : suc i ≡ i + 1 = omega arith in
      subst (λ j. compared (drop j us) (drop j vs) ≡ compared us vs) next
      (ap (λ o. ordering_then o (compared (drop (suc i) us) (drop (suc i) vs))) q ∙ (sym (turn us vs i a b e f) ∙ same))

shorter : (us vs : List ℕ) (i : ℕ) → i ≡ length us → length us < length vs → compared (drop i us) (drop i vs) ≡ Less
shorter [] [] i e l = absurd (omega (arith, l))
shorter [] (v ∷ vs) zero e l = refl
shorter [] (v ∷ vs) (suc i) e l = absurd (omega (arith, e))
shorter (u ∷ us) [] i e l = absurd (omega (arith, l))
shorter (u ∷ us) (v ∷ vs) zero e l = absurd (omega (arith, e))
shorter (u ∷ us) (v ∷ vs) (suc i) e l = shorter us vs i (omega (arith, e)) (omega (arith, l))

longer : (us vs : List ℕ) (i : ℕ) → i ≡ length vs → length vs < length us → compared (drop i us) (drop i vs) ≡ Greater
longer [] vs i e l = absurd (omega (arith, l))
longer (u ∷ us) [] zero e l = refl
longer (u ∷ us) [] (suc i) e l = absurd (omega (arith, e))
longer (u ∷ us) (v ∷ vs) zero e l = absurd (omega (arith, e))
longer (u ∷ us) (v ∷ vs) (suc i) e l = longer us vs i (omega (arith, e)) (omega (arith, l))

as_long : (us vs : List ℕ) (i : ℕ) → i ≡ length us → length us ≡ length vs → compared (drop i us) (drop i vs) ≡ Equal
as_long [] [] zero e l = refl
as_long [] [] (suc i) e l = absurd (omega (arith, e))
as_long [] (v ∷ vs) i e l = absurd (omega (arith, l))
as_long (u ∷ us) [] i e l = absurd (omega (arith, l))
as_long (u ∷ us) (v ∷ vs) zero e l = absurd (omega (arith, e))
as_long (u ∷ us) (v ∷ vs) (suc i) e l = as_long us vs i (omega (arith, e)) (omega (arith, l))

-- all bytes of one are those of the other
module _ (us vs : List ℕ) (i n k : ℕ) (n_is : n ≡ length us) (k_is : k ≡ length vs) (last : min n k ≤ i) (end : i ≤ min n k) (same : compared (drop i us) (drop i vs) ≡ compared us vs) where
  pub ends_less : n < k → Less ≡ compared us vs
  ends_less l = sym (shorter us vs i (omega (arith, n_is, last, end, l)) (omega (arith, n_is, k_is, l))) ∙ same

  pub ends_greater : k < n → Greater ≡ compared us vs
  ends_greater l = sym (longer us vs i (omega (arith, k_is, last, end, l)) (omega (arith, n_is, k_is, l))) ∙ same

  pub ends_equal : k ≤ n → n ≤ k → Equal ≡ compared us vs
  ends_equal l j = sym (as_long us vs i (omega (arith, n_is, last, end, l, j)) (omega (arith, n_is, k_is, l, j))) ∙ same

-- A NAME OF AN IMAGE

pub name_size : {v : View} → IsWhole v → (x : Value) → IsName v.objects x → size_of (object_of v.objects x) ≡ length (object_of v.objects x).units
name_size whole x name = size_is whole x name.live name.kind

pub name_byte : {v : View} → IsWhole v → (x : Value) → IsName v.objects x → (i b : ℕ)
    → slice_get (object_of v.objects x).units (i - first_unit (object_of v.objects x)) ≡ Some b → slice_get (object_of v.objects x).units i ≡ Some b
name_byte whole x name i b e = unit_is whole x name.live name.kind i b e

pub no_header : {v : View} → IsWhole v → (x : Value) → IsName v.objects x → first_unit (object_of v.objects x) ≡ 0
no_header whole x name = first_none whole x name.live name.kind

-- a text is this name where the two compare as equal
pub equal_text : (t : Table) (x : Value) (us ts : List ℕ) (o : Ordering) → text_at t x ≡ Some us → o ≡ compared us ts → is_eq o ≡ is_text ts (text_at t x)
equal_text t x us ts o e f = rw e (ap is_eq f ∙ is_eq-slice_cmp us ts)

pub ruleset same_bytes = (is_eq-slice_cmp)
