-- Objects stay what their kind says where a field or a unit is stored, and new ones are.
use Rattle.std.proofs.Common.{◌≡◌, ℕ, ◌+◌, ◌-◌, ◌*◌, ◌/◌, ◌<◌, ◌≤◌, zero, suc, true, false, List, [], ◌∷◌, length, set, replicate, refl, sym, ap, ◌∙◌, subst, arith, length-set, lit<}
use Rattle.std.specs.Prelude.{slice_get, Some, ◌%◌, ◌==◌, if◌then◌else◌}
use Rattle.std.proofs.lemmas.List.{length-replicate}
use Rattle.st_model.specs.declared.kind.Kind.{Kind}
use Rattle.st_model.specs.declared.kind.Kind.TheVariants as kind
use Rattle.st_model.specs.Values.{Value, Small, is_small}
use Rattle.st_model.specs.Objects.{Object, MethodClass, nil, place_of, is_words, is_pointers, is_method, size_of, words_of, with_field, object_with_unit}
use Rattle.st_model.specs.Formed.{IsFormed, IsHeader, IsMakeable, IsWord, literals_of, unit_limit, fresh}
use Rattle.st_model.proofs.KindTests.{words_pointers, words_fields}

-- what stands in a list after a store stood there before or is what was stored
pub in_set : {A : Type 0} (P : A → Type 0) (xs : List A) (i : ℕ) (x : A) → P x → ((j : ℕ) (y : A) → slice_get xs j ≡ Some y → P y) → (j : ℕ) (y : A) → slice_get (set xs i x) j ≡ Some y → P y
in_set P [] i x new old j y e = cc
in_set P (z ∷ xs) zero x new old zero y e = let q : x ≡ y = cc in subst P q new
in_set P (z ∷ xs) zero x new old (suc j) y e = old (suc j) y e
in_set P (z ∷ xs) (suc i) x new old zero y e = old zero y e
in_set P (z ∷ xs) (suc i) x new old (suc j) y e = in_set P xs i x new (λ k w q. old (suc k) w q) j y e

in_replicate : {A : Type 0} (P : A → Type 0) (n : ℕ) (x : A) → P x → (j : ℕ) (y : A) → slice_get (replicate n x) j ≡ Some y → P y
in_replicate P zero x h j y e = cc
in_replicate P (suc n) x h zero y e = let q : x ≡ y = cc in subst P q h
in_replicate P (suc n) x h (suc j) y e = in_replicate P n x h j y e

first_in_set : (P : Value → Type 0) (xs : List Value) (i : ℕ) (x : Value) → (i ≡ 0 → P x) → ((y : Value) → slice_get xs 0 ≡ Some y → P y) → (y : Value) → slice_get (set xs i x) 0 ≡ Some y → P y
first_in_set P [] i x new old y e = cc
first_in_set P (z ∷ xs) zero x new old y e = let q : x ≡ y = cc in subst P q (new refl)
first_in_set P (z ∷ xs) (suc i) x new old y e = old y e

pub words_of-with_field : (o : Object) (i : ℕ) (x : Value) → words_of (with_field o i x) ≡ words_of o
words_of-with_field o i x = λ t. if is_words o.kind then 2 + length o.units else 2 + length-set o.fields i x t + (length o.units + 1) / 2

pub words_of-object_with_unit : (o : Object) (i u : ℕ) → words_of (object_with_unit o i u) ≡ words_of o
words_of-object_with_unit o i u = λ t. if is_words o.kind then 2 + length-set o.units i u t else 2 + length o.fields + (length-set o.units i u t + 1) / 2

pub formed_field : (o : Object) (i : ℕ) (x : Value) → IsFormed o → IsHeader o i x → IsWord x → IsFormed (with_field o i x)
formed_field o i x f header word = record {
  method = f.method;
  has_header = λ m. rw length-set (f.has_header m);
  header = λ y e m z. first_in_set (λ v. (is_small v ≡ true) × (literals_of v + 1 ≡ length (set o.fields i x))) o.fields i x
      (λ q. let h = header m q in (h.0, h.1 ∙ sym (length-set o.fields i x)))
      (λ v q. let h = f.header v q m refl in (h.0, h.1 ∙ sym (length-set o.fields i x))) y e;
  fieldless = λ m. ap (λ vs. set vs i x) (f.fieldless m);
  unitless = f.unitless;
  values = in_set IsWord o.fields i x word f.values;
  units = f.units;
  size = subst (λ n. n ≤ 65535) (sym (words_of-with_field o i x)) f.size;
}

pub formed_unit : (o : Object) (i u : ℕ) → IsFormed o → u < unit_limit o.kind → IsFormed (object_with_unit o i u)
formed_unit o i u f small = record {
  method = f.method;
  has_header = f.has_header;
  header = f.header;
  fieldless = f.fieldless;
  unitless = λ m. ap (λ us. set us i u) (f.unitless m);
  values = f.values;
  units = in_set (λ w. w < unit_limit o.kind) o.units i u small f.units;
  size = subst (λ n. n ≤ 65535) (sym (words_of-object_with_unit o i u)) f.size;
}

-- a new object of kind Words or Bytes
formed_units : (class : ℕ) (k : Kind) (size : ℕ) → is_method k ≡ (class == place_of MethodClass) → is_method k ≡ false → is_pointers k ≡ false → 0 < unit_limit k
    → words_of (record { class = class; kind = k; fields = []; units = replicate size 0 }) ≤ 65535 → IsFormed (record { class = class; kind = k; fields = []; units = replicate size 0 })
formed_units class k size method none unitless limit body = record {
  method = method;
  has_header = λ h. cc;
  header = λ y e h. cc;
  fieldless = λ h. refl;
  unitless = λ h. cc;
  values = λ j y e. cc;
  units = in_replicate (λ u. u < unit_limit k) size 0 limit;
  size = body;
}

pub formed_fresh : (class : ℕ) (k : Kind) (size literals : ℕ) → IsMakeable class k size literals → IsFormed (fresh class k size literals)
formed_fresh class kind.Pointers size literals m = record {
  method = m.kind;
  has_header = λ h. cc;
  header = λ y e h. cc;
  fieldless = λ h. cc;
  unitless = λ h. refl;
  values = in_replicate IsWord size nil tt;
  units = λ j u e. cc;
  size = m.body;
}
formed_fresh class kind.Words size literals m = formed_units class kind.Words size m.kind refl refl (lit< tt) m.body
formed_fresh class kind.Bytes size literals m = formed_units class kind.Bytes size m.kind refl refl (lit< tt) m.body
formed_fresh class kind.Method size literals m = record {
  method = m.kind;
  has_header = λ h. omega arith;
  header = λ y e h z. let q : Small literals ≡ y = cc in subst (λ v. (is_small v ≡ true) × (literals_of v + 1 ≡ suc (length (replicate literals nil)))) q (refl, count);
  fieldless = λ h. cc;
  unitless = λ h. cc;
  values = λ j. value j;
  units = in_replicate (λ u. u < 256) (size - 2 * (literals + 1)) 0 (lit< tt);
  size = m.body;
}
  where
    count : literals % 64 + 1 ≡ suc (length (replicate literals nil))
    count = let few = m.few in let long = length-replicate literals nil in omega (arith, few, long)

    value : (j : ℕ) (y : Value) → slice_get (Small literals ∷ replicate literals nil) j ≡ Some y → IsWord y
    value zero y e = let few = m.few in let q : Small literals ≡ y = cc in subst IsWord q (omega (arith, few))
    value (suc j) y e = in_replicate IsWord literals nil tt j y e

pub unit_limit-byte : (k : Kind) → is_words k ≡ false → unit_limit k ≡ 256
unit_limit-byte kind.Pointers h = refl
unit_limit-byte kind.Words h = cc
unit_limit-byte kind.Bytes h = refl
unit_limit-byte kind.Method h = refl

pub unit_limit-word : (k : Kind) → is_words k ≡ true → unit_limit k ≡ 65536
unit_limit-word kind.Pointers h = cc
unit_limit-word kind.Words h = refl
unit_limit-word kind.Bytes h = cc
unit_limit-word kind.Method h = cc

-- an object of kind Words has its words alone
pub words_alone : (o : Object) → IsFormed o → is_words o.kind ≡ true → o.fields ≡ []
words_alone o f h = f.fieldless (words_fields o.kind h)

words_size : (o : Object) → IsFormed o → is_words o.kind ≡ true → size_of o ≡ length o.units
words_size o f h =
    let none : length o.fields ≡ 0 = ap length (words_alone o f h) in
    let words : is_pointers o.kind ≡ false = words_pointers o.kind h in
    rw words (omega (arith, none))

pub words_range : (o : Object) (i : ℕ) → IsFormed o → is_words o.kind ≡ true → i < size_of o → i < length o.units
words_range o i f h l = let e = words_size o f h in omega (arith, e, l)

-- a new object has at most two units to a word, or a field
pub fresh_parts : (class : ℕ) (k : Kind) (size literals : ℕ) → 2 * length (fresh class k size literals).fields + length (fresh class k size literals).units ≤ 2 * words_of (fresh class k size literals)
fresh_parts class kind.Pointers size literals = omega arith
fresh_parts class kind.Words size literals = omega arith
fresh_parts class kind.Bytes size literals = omega arith
fresh_parts class kind.Method size literals = omega arith
