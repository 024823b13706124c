-- The fields and units of the object of an entry, and the object as it is placed.
use Rattle.std.proofs.Common.{◌≡◌, ℕ, ◌+◌, ◌-◌, ◌*◌, ◌/◌, ◌%◌, ◌<◌, ◌≤◌, ◌⊎◌, Bool, true, false, cond, ◌==◌, List, length, arith, refl, sym, ◌∙◌, inl, inr}
use Rattle.std.proofs.lemmas.Bool.{both_ways, cases_Bool, eq-eqb, ne_eqb, eqb-true}
use Rattle.std.proofs.lemmas.List.{length-replicate}
use Rattle.st_model.specs.declared.kind.Kind.{Kind}
use Rattle.st_model.specs.declared.kind.Kind.TheVariants as kind
use Rattle.st_model.specs.declared.head.ImageHead.{ImageHead}
use Rattle.st_model.specs.Objects.{Object, nil, is_words, is_method, words_of}
use Rattle.st_model.specs.Formed.{fresh, IsMakeable}
use Rattle.st_model.specs.Image.{has_odd_length, has_pointers, size, class, body, literal_count}
use Rattle.st_model.specs.Start.{kind_in, has_words, fields_in, units_in, field_count, unit_count}
use Rattle.st_image.specs.inside.Shape.{size_as, literals_as}
use Rattle.st_image.specs.inside.Loads.{IsSound, fresh_in}

-- the kind of an object by its marks and its class
pub kind_method : (h : ImageHead) (bytes : List ℕ) (k : ℕ) → is_method (kind_in h bytes k) ≡ true → (class h bytes k == 34) ≡ true
unfolding kind_in
kind_method h bytes k e = last (has_pointers h bytes k) (class h bytes k == 34) (has_words h bytes k) e
  where
    last : (p c w : Bool) → is_method (cond p kind.Pointers (cond c kind.Method (cond w kind.Words kind.Bytes))) ≡ true → c ≡ true
    last true c w e = absurd (both_ways false refl e)
    last false true w e = refl
    last false false true e = absurd (both_ways false refl e)
    last false false false e = absurd (both_ways false refl e)

-- of class 34 are the methods, and no others
pub method_class : (h : ImageHead) (bytes : List ℕ) (k : ℕ) → IsSound h bytes k → is_method (kind_in h bytes k) ≡ (class h bytes k == 34)
unfolding kind_in
method_class h bytes k sound =
    last (has_pointers h bytes k) (class h bytes k == 34) (has_words h bytes k) (λ p c. sound.pointers p (eqb-true _ _ c))
  where
    last : (p c w : Bool) → (p ≡ true → c ≡ true → ⊥) → is_method (cond p kind.Pointers (cond c kind.Method (cond w kind.Words kind.Bytes))) ≡ c
    last true true w never = absurd (never refl refl)
    last true false w never = refl
    last false true w never = refl
    last false false true never = refl
    last false false false never = refl

-- what a number of fields and one of units have to be for a kind
abbrev pub IsShaped : Kind → ℕ → ℕ → Type 0
IsShaped kind.Pointers fields units = units ≡ 0
IsShaped kind.Words fields units = fields ≡ 0
IsShaped kind.Bytes fields units = fields ≡ 0
IsShaped kind.Method fields units = (0 < fields) × (fields ≤ 64)

shaped_as : (k : Kind) (words header : ℕ) (odd : Bool)
    → IsShaped k (field_count k words (literal_count header)) (unit_count k (words - field_count k words (literal_count header)) odd)
shaped_as kind.Pointers words header odd = refl
shaped_as kind.Words words header odd = refl
shaped_as kind.Bytes words header odd = refl
shaped_as kind.Method words header odd = (omega arith, omega arith)

pub shaped : (h : ImageHead) (bytes : List ℕ) (k : ℕ) → IsShaped (kind_in h bytes k) (fields_in h bytes k) (units_in h bytes k)
unfolding fields_in units_in
shaped h bytes k = shaped_as (kind_in h bytes k) (size h bytes k - 2) (body h bytes k 0) (has_odd_length h bytes k)

-- the words of an object of a kind
abbrev pub words_as : Kind → ℕ → ℕ → ℕ
words_as k fields units = cond (is_words k) (2 + units) (2 + fields + (units + 1) / 2)

words_range : (k : Kind) (words header : ℕ) (odd : Bool) → (is_method k ≡ true → literal_count header + 1 ≤ words)
    → words_as k (field_count k words (literal_count header)) (unit_count k (words - field_count k words (literal_count header)) odd) ≤ words + 2
words_range kind.Pointers words header odd few = omega arith
words_range kind.Words words header odd few = omega arith
words_range kind.Bytes words header true few = omega arith
words_range kind.Bytes words header false few = omega arith
words_range kind.Method words header true few = let a = few refl in omega arith
words_range kind.Method words header false few = let a = few refl in omega arith

pub words_fit_size : (h : ImageHead) (bytes : List ℕ) (k : ℕ) → IsSound h bytes k → words_as (kind_in h bytes k) (fields_in h bytes k) (units_in h bytes k) ≤ size h bytes k
unfolding fields_in units_in
words_fit_size h bytes k sound =
    let least = sound.inside.least in
    let a = words_range (kind_in h bytes k) (size h bytes k - 2) (body h bytes k 0) (has_odd_length h bytes k) (λ e. let b = sound.literals e in omega arith) in
    omega arith

fields_fit : (k : Kind) (words header : ℕ) → (is_method k ≡ true → literal_count header + 1 ≤ words) → field_count k words (literal_count header) ≤ words
fields_fit kind.Pointers words header few = omega arith
fields_fit kind.Words words header few = omega arith
fields_fit kind.Bytes words header few = omega arith
fields_fit kind.Method words header few = few refl

pub fields_range : (h : ImageHead) (bytes : List ℕ) (k : ℕ) → IsSound h bytes k → fields_in h bytes k + 2 ≤ size h bytes k
unfolding fields_in
fields_range h bytes k sound =
    let least = sound.inside.least in
    let a = fields_fit (kind_in h bytes k) (size h bytes k - 2) (body h bytes k 0) (λ e. let b = sound.literals e in omega arith) in
    omega arith

-- the bytes of an object lie in its words
pub bytes_range : (h : ImageHead) (bytes : List ℕ) (k : ℕ) → IsSound h bytes k → is_words (kind_in h bytes k) ≡ false
    → 2 * (fields_in h bytes k + 2) + units_in h bytes k ≤ 2 * size h bytes k
bytes_range h bytes k sound plain =
    let a = words_fit_size h bytes k sound in
    let b : 2 + fields_in h bytes k + (units_in h bytes k + 1) / 2 ≤ size h bytes k = rw plain at a in
    omega arith

pub units_range : (h : ImageHead) (bytes : List ℕ) (k : ℕ) → IsSound h bytes k → is_words (kind_in h bytes k) ≡ true → units_in h bytes k + 2 ≤ size h bytes k
units_range h bytes k sound words =
    let a = words_fit_size h bytes k sound in
    let b : 2 + units_in h bytes k ≤ size h bytes k = rw words at a in
    omega arith

-- a new object of a kind

fresh_fields : (c : ℕ) (k : Kind) (fields units : ℕ) → IsShaped k fields units → length (fresh c k (size_as k fields units) (literals_as k fields)).fields ≡ fields
fresh_fields c kind.Pointers fields units is = length-replicate fields nil
fresh_fields c kind.Words fields units is = sym is
fresh_fields c kind.Bytes fields units is = sym is
fresh_fields c kind.Method fields units is = let a = length-replicate (fields - 1) nil in let b = is.0 in omega arith

fresh_units : (c : ℕ) (k : Kind) (fields units : ℕ) → IsShaped k fields units → length (fresh c k (size_as k fields units) (literals_as k fields)).units ≡ units
fresh_units c kind.Pointers fields units is = sym is
fresh_units c kind.Words fields units is = length-replicate _ _
fresh_units c kind.Bytes fields units is = length-replicate _ _
fresh_units c kind.Method fields units is =
    let a : 2 * fields + units - 2 * (fields - 1 + 1) ≡ units = let b = is.0 in omega arith in
    length-replicate _ _ ∙ a

fresh_same : (c : ℕ) (k : Kind) (size literals : ℕ) → ((fresh c k size literals).class ≡ c) × ((fresh c k size literals).kind ≡ k)
fresh_same c kind.Pointers size literals = (refl, refl)
fresh_same c kind.Words size literals = (refl, refl)
fresh_same c kind.Bytes size literals = (refl, refl)
fresh_same c kind.Method size literals = (refl, refl)

pub words_of_parts : (o : Object) (k : Kind) (fields units : ℕ) → o.kind ≡ k → length o.fields ≡ fields → length o.units ≡ units → words_of o ≡ words_as k fields units
words_of_parts o k fields units a b d = rw (a, b, d) refl

pub fresh_in-fields : (h : ImageHead) (bytes : List ℕ) (k : ℕ) → length (fresh_in h bytes k).fields ≡ fields_in h bytes k
unfolding fresh_in
fresh_in-fields h bytes k = fresh_fields (class h bytes k / 2) (kind_in h bytes k) (fields_in h bytes k) (units_in h bytes k) (shaped h bytes k)

pub fresh_in-units : (h : ImageHead) (bytes : List ℕ) (k : ℕ) → length (fresh_in h bytes k).units ≡ units_in h bytes k
unfolding fresh_in
fresh_in-units h bytes k = fresh_units (class h bytes k / 2) (kind_in h bytes k) (fields_in h bytes k) (units_in h bytes k) (shaped h bytes k)

pub fresh_in-class : (h : ImageHead) (bytes : List ℕ) (k : ℕ) → ((fresh_in h bytes k).class ≡ class h bytes k / 2) × ((fresh_in h bytes k).kind ≡ kind_in h bytes k)
unfolding fresh_in
fresh_in-class h bytes k = fresh_same (class h bytes k / 2) (kind_in h bytes k) _ _

pub fresh_in-words : (h : ImageHead) (bytes : List ℕ) (k : ℕ) → IsSound h bytes k → words_of (fresh_in h bytes k) ≤ size h bytes k
fresh_in-words h bytes k sound =
    let a = words_of_parts (fresh_in h bytes k) _ _ _ (fresh_in-class h bytes k).1 (fresh_in-fields h bytes k) (fresh_in-units h bytes k) in
    let b = words_fit_size h bytes k sound in
    omega arith

-- what the class and the numbers of an object as it is placed have to be

literals_few : (k : Kind) (fields units : ℕ) → IsShaped k fields units
    → (literals_as k fields ≤ 63) × (is_method k ≡ false → literals_as k fields ≡ 0) × (is_method k ≡ true → 2 * literals_as k fields + 2 ≤ size_as k fields units)
literals_few kind.Pointers fields units is = (omega arith, λ e. refl, λ e. absurd (both_ways false refl e))
literals_few kind.Words fields units is = (omega arith, λ e. refl, λ e. absurd (both_ways false refl e))
literals_few kind.Bytes fields units is = (omega arith, λ e. refl, λ e. absurd (both_ways false refl e))
literals_few kind.Method fields units is = (let a = is.1 in omega arith, λ e. absurd (both_ways true e refl), λ e. let a = is.0 in omega arith)

half_is : (c : ℕ) → c % 2 ≡ 0 → (c == 34) ≡ (c / 2 == 17)
half_is c even = last (cases_Bool (c == 34))
  where
    last : (((c == 34) ≡ true) ⊎ ((c == 34) ≡ false)) → (c == 34) ≡ (c / 2 == 17)
    last (inl e) = e ∙ sym (eq-eqb (c / 2) 17 (let a = eqb-true c 34 e in omega arith))
    last (inr e) = e ∙ sym (ne_eqb (c / 2) 17 (λ f. let a : c ≡ 34 = omega arith in both_ways _ e (eq-eqb c 34 a)))

pub makeable : (h : ImageHead) (bytes : List ℕ) (k : ℕ) → IsSound h bytes k → class h bytes k % 2 ≡ 0 → size h bytes k ≤ 65535
    → IsMakeable (class h bytes k / 2) (kind_in h bytes k) (size_as (kind_in h bytes k) (fields_in h bytes k) (units_in h bytes k)) (literals_as (kind_in h bytes k) (fields_in h bytes k))
unfolding fresh_in
makeable h bytes k sound even small =
    let few = literals_few (kind_in h bytes k) (fields_in h bytes k) (units_in h bytes k) (shaped h bytes k) in
    record {
      kind = method_class h bytes k sound ∙ half_is (class h bytes k) even;
      body = let a = fresh_in-words h bytes k sound in omega arith;
      few = few.0;
      none = few.1;
      header = few.2;
    }
