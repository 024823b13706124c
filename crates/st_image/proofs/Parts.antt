-- What an object becomes as its fields and units are stored one after another.
use Rattle.std.proofs.Common.{◌≡◌, ℕ, zero, suc, ◌+◌, ◌-◌, ◌<◌, ◌≤◌, ◌⊎◌, true, false, List, length, slice_set, get_or, arith, refl, ap, ◌∙◌, inl, inr}
use Rattle.std.proofs.lemmas.List.{get_or-set_same, get_or-set_other}
use Rattle.st_model.proofs.Made.{made_from}
use Rattle.std.proofs.lemmas.Bool.{cases_lt, both_ways}
use Rattle.std.proofs.Math.ListN.{length-set}
use Rattle.st_model.specs.declared.kind.Kind.{Kind}
use Rattle.st_model.specs.declared.kind.Kind.TheVariants as kind
use Rattle.st_model.specs.declared.head.ImageHead.{ImageHead}
use Rattle.st_model.specs.Lists.{made}
use Rattle.st_model.specs.Values.{Value, value_of}
use Rattle.st_model.specs.Objects.{Object, nil, is_words, is_method}
use Rattle.st_model.specs.Formed.{IsHeader}
use Rattle.st_model.specs.Image.{body, literal_count, size}
use Rattle.st_model.specs.Start.{kind_in, field_count, fields_in, units_in, field_in, unit_in, units_start, object_in}
use Rattle.st_model.proofs.Words.{is_small-value_of, literals_of-value_of}
use Rattle.st_image.specs.inside.Loads.{IsSound, fresh_in, filled_in, with_fields, with_units}
use Rattle.st_image.proofs.Shapes.{fresh_in-class, fresh_in-fields, fresh_in-units}

pub with_fields-length : (o : Object) (f : ℕ → Value) (n : ℕ) → length (with_fields o f n).fields ≡ length o.fields
with_fields-length o f zero = refl
with_fields-length o f (suc n) = length-set (with_fields o f n).fields n (f n) ∙ with_fields-length o f n

pub with_fields-rest : (o : Object) (f : ℕ → Value) (n : ℕ)
    → ((with_fields o f n).class ≡ o.class) × ((with_fields o f n).kind ≡ o.kind) × ((with_fields o f n).units ≡ o.units)
with_fields-rest o f zero = (refl, refl, refl)
with_fields-rest o f (suc n) = with_fields-rest o f n

with_fields-at : (o : Object) (f : ℕ → Value) (n : ℕ) → n ≤ length o.fields → (d : Value) (j : ℕ) → j < n → get_or (with_fields o f n).fields j d ≡ f j
with_fields-at o f zero few d j j_in = absurd (omega arith)
with_fields-at o f (suc n) few d j j_in = last (cases_lt j n) (λ e. with_fields-at o f n (omega arith) d j e)
  where
    last : ((j < n) ⊎ (n ≤ j)) → (j < n → get_or (with_fields o f n).fields j d ≡ f j) → get_or (slice_set (with_fields o f n).fields n (f n)) j d ≡ f j
    last (inl e) more = get_or-set_other (with_fields o f n).fields n j (f n) d (λ (x : j ≡ n). absurd (omega arith)) ∙ more e
    last (inr e) more =
        let a : j ≡ n = omega arith in
        rw a (get_or-set_same (with_fields o f n).fields n (f n) d (let l = with_fields-length o f n in omega arith))

pub with_units-length : (o : Object) (f : ℕ → ℕ) (n : ℕ) → length (with_units o f n).units ≡ length o.units
with_units-length o f zero = refl
with_units-length o f (suc n) = length-set (with_units o f n).units n (f n) ∙ with_units-length o f n

pub with_units-rest : (o : Object) (f : ℕ → ℕ) (n : ℕ)
    → ((with_units o f n).class ≡ o.class) × ((with_units o f n).kind ≡ o.kind) × ((with_units o f n).fields ≡ o.fields)
with_units-rest o f zero = (refl, refl, refl)
with_units-rest o f (suc n) = with_units-rest o f n

with_units-at : (o : Object) (f : ℕ → ℕ) (n : ℕ) → n ≤ length o.units → (d : ℕ) (j : ℕ) → j < n → get_or (with_units o f n).units j d ≡ f j
with_units-at o f zero few d j j_in = absurd (omega arith)
with_units-at o f (suc n) few d j j_in = last (cases_lt j n) (λ e. with_units-at o f n (omega arith) d j e)
  where
    last : ((j < n) ⊎ (n ≤ j)) → (j < n → get_or (with_units o f n).units j d ≡ f j) → get_or (slice_set (with_units o f n).units n (f n)) j d ≡ f j
    last (inl e) more = get_or-set_other (with_units o f n).units n j (f n) d (λ (x : j ≡ n). absurd (omega arith)) ∙ more e
    last (inr e) more =
        let a : j ≡ n = omega arith in
        rw a (get_or-set_same (with_units o f n).units n (f n) d (let l = with_units-length o f n in omega arith))

-- an object by its four parts
same_object : (a b : Object) → a.class ≡ b.class → a.kind ≡ b.kind → a.fields ≡ b.fields → a.units ≡ b.units → a ≡ b
same_object a b c k f u =
    ap (λ (x : ℕ). let r : Object = record { class = x; kind = a.kind; fields = a.fields; units = a.units } in r) c
    ∙ (ap (λ (x : Kind). let r : Object = record { class = b.class; kind = x; fields = a.fields; units = a.units } in r) k
    ∙ (ap (λ (x : List Value). let r : Object = record { class = b.class; kind = b.kind; fields = x; units = a.units } in r) f
    ∙ ap (λ (x : List ℕ). let r : Object = record { class = b.class; kind = b.kind; fields = b.fields; units = x } in r) u))

-- an object all of whose fields and units were stored
stored : (o : Object) (f : ℕ → Value) (u : ℕ → ℕ) (n m : ℕ) → length o.fields ≡ n → length o.units ≡ m
    → with_units (with_fields o f n) u m ≡ record { class = o.class; kind = o.kind; fields = made f n; units = made u m }
stored o f u n m few fewer =
    let a = with_units-rest (with_fields o f n) u m in
    let d = with_fields-rest o f n in
    same_object (with_units (with_fields o f n) u m) (record { class = o.class; kind = o.kind; fields = made f n; units = made u m })
    (a.0 ∙ d.0) (a.1 ∙ d.1)
    (a.2 ∙ made_from f (with_fields o f n).fields n nil (with_fields-length o f n ∙ few) (λ k k_in. with_fields-at o f n (omega arith) nil k k_in))
    (made_from u (with_units (with_fields o f n) u m).units m 0 (with_units-length (with_fields o f n) u m ∙ (ap length d.2 ∙ fewer))
    (λ k k_in. with_units-at (with_fields o f n) u m (let e : length (with_fields o f n).units ≡ length o.units = ap length d.2 in omega arith) 0 k k_in))

-- THE OBJECT OF AN ENTRY

pub filled_in-rest : (h : ImageHead) (bytes : List ℕ) (k : ℕ)
    → ((filled_in h bytes k).kind ≡ kind_in h bytes k) × (length (filled_in h bytes k).fields ≡ fields_in h bytes k) × (length (filled_in h bytes k).units ≡ units_in h bytes k)
unfolding filled_in
filled_in-rest h bytes k =
    let a = with_fields-rest (fresh_in h bytes k) (field_in h bytes k) (fields_in h bytes k) in (
      a.1 ∙ (fresh_in-class h bytes k).1,
      with_fields-length (fresh_in h bytes k) (field_in h bytes k) (fields_in h bytes k) ∙ fresh_in-fields h bytes k,
      ap length a.2 ∙ fresh_in-units h bytes k,
    )

pub object_is : (h : ImageHead) (bytes : List ℕ) (k : ℕ) → with_units (filled_in h bytes k) (unit_in h bytes k) (units_in h bytes k) ≡ object_in h bytes k
unfolding filled_in object_in
object_is h bytes k =
    let a = fresh_in-class h bytes k in
    rw (stored (fresh_in h bytes k) (field_in h bytes k) (unit_in h bytes k) (fields_in h bytes k) (units_in h bytes k) (fresh_in-fields h bytes k) (fresh_in-units h bytes k))
    (rw (a.0, a.1) refl)

pub unit_word : (h : ImageHead) (bytes : List ℕ) (k i : ℕ) → is_words (kind_in h bytes k) ≡ true → unit_in h bytes k i ≡ body h bytes k i
unfolding unit_in
unit_word h bytes k i e = rw e refl

pub unit_byte : (h : ImageHead) (bytes : List ℕ) (k i : ℕ) → is_words (kind_in h bytes k) ≡ false → unit_in h bytes k i ≡ get_or bytes (units_start h bytes k + i) 0
unfolding unit_in
unit_byte h bytes k i e = rw e refl

-- the header of a method is stored where it counts the fields
pub header_is : (h : ImageHead) (bytes : List ℕ) (k i : ℕ) (o : Object) → IsSound h bytes k → o.kind ≡ kind_in h bytes k → length o.fields ≡ fields_in h bytes k
    → IsHeader o i (value_of (body h bytes k i))
unfolding fields_in
header_is h bytes k i o sound same fields method first =
    let m : is_method (kind_in h bytes k) ≡ true = cc in
    rw (first, is_small-value_of, literals_of-value_of, fields, sound.header m) (refl, count (kind_in h bytes k) m)
  where
    count : (k' : Kind) → is_method k' ≡ true → literal_count (body h bytes k 0) + 1 ≡ field_count k' (size h bytes k - 2) (literal_count (body h bytes k 0))
    count kind.Method e = refl
    count kind.Pointers e = absurd (both_ways false refl e)
    count kind.Words e = absurd (both_ways false refl e)
    count kind.Bytes e = absurd (both_ways false refl e)
