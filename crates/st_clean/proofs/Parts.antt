-- Objects of which some fields and units are those of another one.
use Rattle.std.proofs.Common.{◌≡◌, ℕ, ◌+◌, ◌-◌, ◌*◌, ◌/◌, ◌<◌, ◌≤◌, List, [], ◌∷◌, ◌++◌, Bool, true, false, Some, length, take, refl, sym, ap, ◌∙◌, subst, arith, length-set}
use Rattle.std.specs.Prelude.{slice_get, if◌then◌else◌}
use Rattle.std.proofs.lemmas.List.{length-replicate, take_more_set, take_more, take_all}
use Rattle.std.proofs.lemmas.Option.{slice_get_within, get_or_from_slice_get}
use Rattle.st_model.specs.declared.kind.Kind.{Kind}
use Rattle.st_model.specs.declared.kind.Kind.TheVariants as kind
use Rattle.st_model.specs.Values.{Value, Small, Ref}
use Rattle.st_model.specs.Objects.{Object, nil, is_words, is_pointers, is_method, size_of, words_of, with_field, object_with_unit}
use Rattle.st_model.specs.Formed.{IsFormed, IsMakeable, literals_of, fresh}
use Rattle.st_clean.specs.Filling.{IsPart}

pub part_words : (i j : ℕ) (o p : Object) → IsPart i j o p → words_of p ≡ words_of o
part_words i j o p h = λ t. if is_words (h.kind t) then 2 + h.many_units t else 2 + h.many_fields t + (h.many_units t + 1) / 2

fresh_of : (class : ℕ) (k : Kind) (fields : List Value) (units : List ℕ) (n : ℕ) → (let o : Object = record { class = class; kind = k; fields = fields; units = units } in
    IsFormed o → (is_method k ≡ true → n + 1 ≡ length fields) → IsPart 0 0 o (fresh class k (size_of o) n))
fresh_of class kind.Pointers fields units n f m = record { class = refl; kind = refl; many_fields = length-replicate (length fields) nil; many_units = sym (ap length (f.unitless refl)); fields = refl; units = refl }
fresh_of class kind.Words fields units n f m =
    let e = ap length (f.fieldless refl) in
    let l = length-replicate {A = ℕ} (2 * length fields + length units) 0 in
    record { class = refl; kind = refl; many_fields = sym e; many_units = omega (arith, e, l); fields = refl; units = refl }
fresh_of class kind.Bytes fields units n f m =
    let e = ap length (f.fieldless refl) in
    let l = length-replicate {A = ℕ} (2 * length fields + length units) 0 in
    record { class = refl; kind = refl; many_fields = sym e; many_units = omega (arith, e, l); fields = refl; units = refl }
fresh_of class kind.Method fields units n f m =
    let e = m refl in
    let k = length-replicate n nil in
    let l = length-replicate {A = ℕ} (2 * length fields + length units - 2 * (n + 1)) 0 in
    record { class = refl; kind = refl; many_fields = omega (arith, e, k); many_units = omega (arith, e, l); fields = refl; units = refl }

pub fresh_part : (o : Object) (n : ℕ) → IsFormed o → (is_method o.kind ≡ true → n + 1 ≡ length o.fields) → IsPart 0 0 o (fresh o.class o.kind (size_of o) n)
fresh_part o n f m = fresh_of o.class o.kind o.fields o.units n f m

few_literals : (v : Value) → literals_of v ≤ 63
few_literals (Small n) = omega arith
few_literals (Ref n) = omega arith

first_there : (xs : List Value) → 0 < length xs → (x : Value) × (slice_get xs 0 ≡ Some x)
first_there [] l = absurd (nothing l)
  where
    nothing : 0 < 0 → ⊥
    nothing h = omega (arith, h)
first_there (x ∷ xs) l = (x, refl)

method_size : (k : Kind) (f u : ℕ) → is_method k ≡ true → (if is_pointers k then f else 2 * f + u) ≡ 2 * f + u
method_size kind.Pointers f u e = cc
method_size kind.Words f u e = cc
method_size kind.Bytes f u e = cc
method_size kind.Method f u e = refl

few_of : (o : Object) (n : ℕ) (b : Bool) → is_method o.kind ≡ b → IsFormed o → (b ≡ true → n + 1 ≡ length o.fields) → (b ≡ false → n ≡ 0) → n ≤ 63
few_of o n true e f m other =
    let x = first_there o.fields (f.has_header e) in
    let h = (f.header x.0 x.1 e refl).1 in
    let k = few_literals x.0 in
    let l = m refl in
    omega (arith, h, k, l)
few_of o n false e f m other = let l = other refl in omega (arith, l)

pub part_makeable : (o : Object) (n : ℕ) → IsFormed o → (is_method o.kind ≡ true → n + 1 ≡ length o.fields) → (is_method o.kind ≡ false → n ≡ 0) → IsMakeable o.class o.kind (size_of o) n
part_makeable o n f m other = record {
  kind = f.method;
  body = subst (λ w. w ≤ 65535) (sym (part_words 0 0 o _ (fresh_part o n f m))) f.size;
  few = few_of o n (is_method o.kind) refl f m other;
  none = other;
  header = λ e. let k = method_size o.kind (length o.fields) (length o.units) e in let l = m e in omega (arith, k, l);
}

-- one field more, and one unit more
pub part_field : (i : ℕ) (o p : Object) (x : Value) → IsPart i 0 o p → slice_get o.fields i ≡ Some x → IsPart (i + 1) 0 o (with_field p i x)
part_field i o p x h e =
    let l = slice_get_within o.fields i x e in
    record {
      class = h.class;
      kind = h.kind;
      many_fields = length-set p.fields i x ∙ h.many_fields;
      many_units = h.many_units;
      fields = take_more_set p.fields i x (omega (arith, l, h.many_fields)) ∙ (ap (λ xs. xs ++ x ∷ []) h.fields ∙ sym (take_more o.fields i x l ∙ ap (λ y. take i o.fields ++ y ∷ []) (get_or_from_slice_get o.fields i x x e)));
      units = refl;
    }

pub part_unit : (n j : ℕ) (o p : Object) (u : ℕ) → IsPart n j o p → slice_get o.units j ≡ Some u → IsPart n (j + 1) o (object_with_unit p j u)
part_unit n j o p u h e =
    let l = slice_get_within o.units j u e in
    record {
      class = h.class;
      kind = h.kind;
      many_fields = h.many_fields;
      many_units = length-set p.units j u ∙ h.many_units;
      fields = h.fields;
      units = take_more_set p.units j u (omega (arith, l, h.many_units)) ∙ (ap (λ xs. xs ++ u ∷ []) h.units ∙ sym (take_more o.units j u l ∙ ap (λ y. take j o.units ++ y ∷ []) (get_or_from_slice_get o.units j u u e)));
    }

-- all of both
pub part_whole : (i j : ℕ) (o p : Object) → i ≡ length o.fields → j ≡ length o.units → IsPart i j o p → p ≡ o
part_whole i j o p f u h =
    let a : p.fields ≡ o.fields = sym (take_all i p.fields (omega (arith, f, h.many_fields))) ∙ (h.fields ∙ take_all i o.fields (omega (arith, f))) in
    let b : p.units ≡ o.units = sym (take_all j p.units (omega (arith, u, h.many_units))) ∙ (h.units ∙ take_all j o.units (omega (arith, u))) in
    λ t. record { class = h.class t; kind = h.kind t; fields = a t; units = b t }
