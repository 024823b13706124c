-- A new method gets its header after its place.
use Rattle.std.proofs.Common.{◌≡◌, ℕ, ◌+◌, ◌*◌, ◌-◌, ◌/◌, ◌<◌, zero, suc, true, false, [], ◌∷◌, length, set, replicate, refl, sym, ap, ◌∙◌, subst, arith, is_some}
use Rattle.std.specs.Prelude.{unwrap_or, Some, None}
use Rattle.std.specs.Option.{option_map}
use Rattle.std.proofs.lemmas.List.{length-replicate, length-map}
use Rattle.st_model.specs.declared.kind.Kind.{Kind}
use Rattle.st_model.specs.declared.kind.Kind.TheVariants.{Pointers, Words, Bytes, Method}
use Rattle.st_model.specs.Values.{Value, Small, value_of, is_small}
use Rattle.st_model.specs.Objects.{Object, nil, is_method, with_field}
use Rattle.st_model.specs.Formed.{fresh}
use Rattle.st_model.specs.Table.{Table, entry, changed}
use Rattle.st_model.specs.View.{nothing, is_live, object_of, with_object, with_stored}
use Rattle.st_model.proofs.Pointers.{value_of-even}
use Rattle.st_plain.specs.declared.objects.Objects.{Objects}
use Rattle.st_plain.specs.inside.Lists.{cleared, entry_object}
use Rattle.st_plain.specs.inside.ListsPlain.{objects_of}
use Rattle.st_model.proofs.LoadingLemmas.{entry-set_same}

-- each pointer has its place in the table
pub pointer_within : (o : Objects) (w : ℕ) → w < 65536 → w / 2 < length (objects_of o)
pointer_within o w small =
    let long = length-map o.entries.items (option_map (entry_object o.pointers.items o.units.items)) in
    let places = o.laid_out.places in
    omega (arith, long, places, small)

changed-set : (t : Table) (n : ℕ) (a o : Object) → n < length t → changed (set t n (Some a)) n o ≡ set t n (Some o)
changed-set [] n a o l = absurd (omega (arith, l))
changed-set (e ∷ t) zero a o l = refl
changed-set (None ∷ t) (suc n) a o l = ap (λ u. None ∷ u) (changed-set t n a o (omega (arith, l)))
changed-set (Some b ∷ t) (suc n) a o l = ap (λ u. Some b ∷ u) (changed-set t n a o (omega (arith, l)))

module _ (t : Table) (w : ℕ) (o : Object) (even : is_small (value_of w) ≡ false) (within : w / 2 < length t) where
  pub live_placed : is_live (with_object t (value_of w) o) (value_of w) ≡ true
  unfolding is_live with_object
  live_placed = subst (λ v. is_live (with_object t v o) v ≡ true) (sym (value_of-even w even)) (ap is_some (entry-set_same t (w / 2) o within))

  pub object_of-placed : object_of (with_object t (value_of w) o) (value_of w) ≡ o
  unfolding object_of with_object
  object_of-placed = subst (λ v. object_of (with_object t v o) v ≡ o) (sym (value_of-even w even)) (ap (λ e. unwrap_or e nothing) (entry-set_same t (w / 2) o within))

  pub stored_placed : (i : ℕ) (x : Value) → with_stored (with_object t (value_of w) o) (value_of w) i x ≡ with_object t (value_of w) (with_field o i x)
  unfolding with_stored with_object object_of
  stored_placed i x =
      let n = w / 2 in
      let there : unwrap_or (entry (set t n (Some o)) n) nothing ≡ o = ap (λ e. unwrap_or e nothing) (entry-set_same t n o within) in
      subst (λ v. with_stored (with_object t v o) v i x ≡ with_object t v (with_field o i x)) (sym (value_of-even w even))
      (ap (λ b. changed (set t n (Some o)) n (with_field b i x)) there ∙ changed-set t n o (with_field o i x) within)

pub method_is : (k : Kind) → is_method k ≡ true → k ≡ Method
method_is Pointers h = cc
method_is Words h = cc
method_is Bytes h = cc
method_is Method h = refl

module _ (class size literals fields units : ℕ) (f : fields ≡ length (fresh class Method size literals).fields) where
  first : fields ≡ suc literals
  first = f ∙ ap (λ n. suc n) (length-replicate literals nil)

  -- a method has a place for its header
  pub header_place : 0 < length (cleared class Method fields units).fields
  header_place = subst (λ n. 0 < n) (sym (length-replicate fields nil ∙ first)) (omega arith)

  -- the header goes into the first field
  pub fresh_method : units ≡ length (fresh class Method size literals).units → with_field (cleared class Method fields units) 0 (Small literals) ≡ fresh class Method size literals
  fresh_method u =
      let g = ap (λ n. set (replicate n nil) 0 (Small literals)) first in
      let h = ap (λ n. replicate n 0) (u ∙ length-replicate (size - 2 * (literals + 1)) 0) in
      λ i. record { class = class; kind = Method; fields = g i; units = h i }
