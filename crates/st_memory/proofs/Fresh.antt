-- What is read of a new object that stands alone in a table.
use Rattle.std.proofs.Common.{◌≡◌, ◌≢◌, ℕ, ◌+◌, ◌-◌, ◌*◌, ◌/◌, ◌<◌, ◌≤◌, zero, suc, Bool, true, false, ◌∷◌, length, replicate, Result, Ok, Err, refl, sym, ap, ◌∙◌, subst, arith}
use Rattle.std.specs.Prelude.{ℤ, pos, negsuc, slice_get, nat_lt, nat_le, ◌==◌, Option, Some, None, if◌then◌else◌}
use Rattle.std.proofs.lemmas.List.{length-replicate}
use Rattle.std.proofs.lemmas.Bool.Decides.{nat_tests}
use Rattle.st_model.specs.declared.dead.Dead.{Dead}
use Rattle.st_model.specs.declared.dead.Dead.TheVariants as dead
use Rattle.st_model.specs.declared.kind.Kind.{Kind}
use Rattle.st_model.specs.declared.kind.Kind.TheVariants as kind
use Rattle.st_model.specs.declared.page.PageObject.TheVariants.{MethodClass}
use Rattle.st_model.specs.declared.word.Word.{Word}
use Rattle.st_model.specs.Values.{Value, Small, Ref, word, is_small}
use Rattle.st_model.specs.Objects.{Object, place_of, nil, is_pointers, is_words, is_method, has_bytes, words_of, first_unit}
use Rattle.st_model.specs.Formed.{fresh, IsMakeable}
use Rattle.st_model.specs.Machine.{Step, Went, is_there}
use Rattle.st_model.specs.Steps.{count_fields, literal, fetch_method_field, byte_at, fetch_word, fetch_byte, code_byte}
use Rattle.st_model.specs.Methods.{method_header, literal_from_last, from_last}
use Rattle.st_model.specs.Table.{Table, table}
use Rattle.st_model.specs.inside.Calls.{Reads, itself}
use Rattle.st_model.proofs.Words.{value_of-nil}
use Rattle.st_model.proofs.Pointers.{value_of-odd, value_of-even}
use Rattle.st_memory.specs.inside.Making.{alone, CanMake}
use Rattle.st_memory.proofs.Looking.{Looks, result_got, got_reads, or_got, checked, look_at, count_looks, header_looks, literal_looks, method_field_looks, last_looks, byte_looks, word_looks, fetch_byte_looks, byte_in}

got_nth : {A : Type 0} (n i : ℕ) (x : A) → i < n → slice_get (replicate n x) i ≡ Some x
got_nth zero i x l = absurd (omega (arith, l))
got_nth (suc n) zero x l = refl
got_nth (suc n) (suc i) x l = got_nth n i x (omega (arith, l))

got_none : {A : Type 0} (n i : ℕ) (x : A) → n ≤ i → slice_get (replicate n x) i ≡ None
got_none zero i x l = refl
got_none (suc n) zero x l = absurd (omega (arith, l))
got_none (suc n) (suc i) x l = got_none n i x (omega (arith, l))

-- its class, kind and words

pub class_fresh : (c : ℕ) (k : Kind) (n l : ℕ) → (fresh c k n l).class ≡ c
class_fresh c kind.Pointers n l = refl
class_fresh c kind.Words n l = refl
class_fresh c kind.Bytes n l = refl
class_fresh c kind.Method n l = refl

pub kind_fresh : (c : ℕ) (k : Kind) (n l : ℕ) → (fresh c k n l).kind ≡ k
kind_fresh c kind.Pointers n l = refl
kind_fresh c kind.Words n l = refl
kind_fresh c kind.Bytes n l = refl
kind_fresh c kind.Method n l = refl

pub words_pointers : (c n l : ℕ) → words_of (fresh c kind.Pointers n l) ≡ n + 2
words_pointers c n l = let e : 0 / 2 ≡ 0 = refl in rw (length-replicate n nil) (omega (arith, e))

pub words_words : (c n l : ℕ) → words_of (fresh c kind.Words n l) ≡ n + 2
words_words c n l = rw (length-replicate {A = ℕ} n 0) (omega arith)

pub words_bytes : (c n l : ℕ) → words_of (fresh c kind.Bytes n l) ≡ (n + 1) / 2 + 2
words_bytes c n l = rw (length-replicate {A = ℕ} n 0) (omega arith)

pub words_method : (c n l : ℕ) → 2 * l + 2 ≤ n → words_of (fresh c kind.Method n l) ≡ (n + 1) / 2 + 2
words_method c n l h = rw (length-replicate l nil, length-replicate {A = ℕ} (n - 2 * (l + 1)) 0) (omega (arith, h))

pub method_size : (c : ℕ) (k : Kind) (n l : ℕ) → IsMakeable c k n l → is_method k ≡ true → 2 * l + 2 ≤ n
method_size c k n l m e = m.header e

-- what may be made of a class that a word names
pub made_of : (class : Word) (k : Kind) (n l : ℕ) → is_small (word class) ≡ false → CanMake (word class) k n l → IsMakeable (class.0 / 2) k n l
made_of class k n l even can = subst (λ v. CanMake v k n l) (value_of-even class.0 even) can

pub can_make : (v : Value) (n : ℕ) → v ≢ Ref (place_of MethodClass) → n ≤ 65533 → CanMake v kind.Pointers n 0
can_make (Small c) n d l = tt
can_make (Ref c) n d l = record {
  kind = other c (λ e. d (ap Ref e));
  body = rw (words_pointers c n 0) (omega (arith, l));
  few = omega arith;
  none = λ e. refl;
  header = λ e. cc;
}
  where
    other : (c : ℕ) → c ≢ place_of MethodClass → false ≡ (c == place_of MethodClass)
    other c d = grind (arith, nat_tests)

pub ruleset sizes = (words_pointers, words_words, words_bytes, words_method, method_size)

-- its fields

pub fields_fresh : (c : ℕ) (k : Kind) (n l i : ℕ) → is_pointers k ≡ true → i < length (fresh c k n l).fields → slice_get (fresh c k n l).fields i ≡ Some nil
fields_fresh c kind.Pointers n l i e h = let long = length-replicate n nil in got_nth n i nil (omega (arith, h, long))
fields_fresh c kind.Words n l i e h = cc
fields_fresh c kind.Bytes n l i e h = cc
fields_fresh c kind.Method n l i e h = cc

got_same : (n j : ℕ) (x y : Value) → slice_get (replicate n x) j ≡ Some y → x ≡ y
got_same zero j x y e = cc
got_same (suc n) zero x y e = cc
got_same (suc n) (suc j) x y e = got_same n j x y e

-- what stands in one is nil or a method's header
module _ (t : Table) (known : is_there table t nil ≡ true) where
  there_nil : (y : Value) → nil ≡ y → is_there table t y ≡ true
  there_nil y e = sym (ap (is_there table t) e) ∙ known

  pub there_fresh : (c : ℕ) (k : Kind) (n l j : ℕ) (y : Value) → l ≤ 63 → slice_get (fresh c k n l).fields j ≡ Some y → is_there table t y ≡ true
  there_fresh c kind.Pointers n l j y few e = there_nil y (got_same n j nil y e)
  there_fresh c kind.Words n l j y few e = cc
  there_fresh c kind.Bytes n l j y few e = cc
  there_fresh c kind.Method n l zero y few e =
      let q : Small l ≡ y = cc in
      sym (ap (is_there table t) q) ∙ grind (arith, nat_tests)
  there_fresh c kind.Method n l (suc j) y few e = there_nil y (got_same l j nil y e)

-- steps that look at it

module _ {A B : Type 0} (m : Step Table A) (test : Kind → Bool) (g : Object → Option A) (cause : Dead) (f : B → A) (looks : Looks m (look_at test g cause (Ref 0))) (c : ℕ) (k : Kind) (n l : ℕ) where
  wrong_kind : test k ≡ false → Reads m f (alone (fresh c k n l)) (Err dead.Kind)
  wrong_kind e =
      got_reads m (look_at test g cause (Ref 0)) f looks (alone (fresh c k n l)) (Err dead.Kind)
      (ap (λ b. checked b (or_got cause (g (fresh c k n l)))) (ap test (kind_fresh c k n l) ∙ e))

  right_kind : (r : Result B Dead) → test k ≡ true → or_got cause (g (fresh c k n l)) ≡ result_got f r → Reads m f (alone (fresh c k n l)) r
  right_kind r e h =
      got_reads m (look_at test g cause (Ref 0)) f looks (alone (fresh c k n l)) r
      (ap (λ b. checked b (or_got cause (g (fresh c k n l)))) (ap test (kind_fresh c k n l) ∙ e) ∙ h)

pub count_wrong : (c : ℕ) (k : Kind) (n l : ℕ) → is_pointers k ≡ false → Reads (count_fields table (Ref 0)) itself (alone (fresh c k n l)) (Err dead.Kind)
count_wrong c k n l e = wrong_kind (count_fields table (Ref 0)) is_pointers (λ (o : Object). Some (length o.fields)) dead.Field itself (count_looks (Ref 0)) c k n l e

pub count_right : (c : ℕ) (k : Kind) (n l : ℕ) → is_pointers k ≡ true → Reads (count_fields table (Ref 0)) itself (alone (fresh c k n l)) (Ok n)
count_right c kind.Pointers n l e =
    right_kind (count_fields table (Ref 0)) is_pointers (λ (o : Object). Some (length o.fields)) dead.Field itself (count_looks (Ref 0)) c kind.Pointers n l (Ok n) refl
    (ap (λ x. Went x tt) (length-replicate n nil))
count_right c kind.Words n l e = cc
count_right c kind.Bytes n l e = cc
count_right c kind.Method n l e = cc

module _ (c : ℕ) (k : Kind) (n l : ℕ) where
  pub header_wrong : is_method k ≡ false → Reads (method_header table (Ref 0)) word (alone (fresh c k n l)) (Err dead.Kind)
  header_wrong e = wrong_kind (method_header table (Ref 0)) is_method (λ (o : Object). slice_get o.fields 0) dead.Field word (header_looks (Ref 0)) c k n l e

  pub literal_wrong : (i : ℕ) → is_method k ≡ false → Reads (literal table (Ref 0) i) word (alone (fresh c k n l)) (Err dead.Kind)
  literal_wrong i e = wrong_kind (literal table (Ref 0) i) is_method (λ (o : Object). slice_get o.fields (i + 1)) dead.Field word (literal_looks (Ref 0) i) c k n l e

  pub last_wrong : (i : ℕ) → is_method k ≡ false → Reads (literal_from_last table (Ref 0) i) word (alone (fresh c k n l)) (Err dead.Kind)
  last_wrong i e = wrong_kind (literal_from_last table (Ref 0) i) is_method (λ (o : Object). from_last o i) dead.Field word (last_looks (Ref 0) i) c k n l e

  pub code_wrong : (ip : ℤ) → is_method k ≡ false → Reads (byte_at table (Ref 0) ip) itself (alone (fresh c k n l)) (Err dead.Kind)
  code_wrong ip e = wrong_kind (byte_at table (Ref 0) ip) is_method (λ (o : Object). code_byte o ip) dead.Ip itself (byte_looks (Ref 0) ip) c k n l e

  pub word_wrong : (i : ℕ) → is_words k ≡ false → Reads (fetch_word table (Ref 0) i) itself (alone (fresh c k n l)) (Err dead.Kind)
  word_wrong i e = wrong_kind (fetch_word table (Ref 0) i) is_words (λ (o : Object). slice_get o.units i) dead.Field itself (word_looks (Ref 0) i) c k n l e

  pub byte_wrong : (i : ℕ) → has_bytes k ≡ false → Reads (fetch_byte table (Ref 0) i) itself (alone (fresh c k n l)) (Err dead.Kind)
  byte_wrong i e = wrong_kind (fetch_byte table (Ref 0) i) has_bytes (byte_in i) dead.Field itself (fetch_byte_looks (Ref 0) i) c k n l e

-- of a method

by_method : (P : Kind → Type 0) → P kind.Method → (k : Kind) → is_method k ≡ true → P k
by_method P h kind.Pointers e = cc
by_method P h kind.Words e = cc
by_method P h kind.Bytes e = cc
by_method P h kind.Method e = h

pub header_right : (c : ℕ) (k : Kind) (n l : ℕ) → is_method k ≡ true → Reads (method_header table (Ref 0)) word (alone (fresh c k n l)) (Ok (record { 0 = 2 * l + 1 }))
header_right c k n l e =
    by_method (λ k. Reads (method_header table (Ref 0)) word (alone (fresh c k n l)) (Ok (record { 0 = 2 * l + 1 })))
    (right_kind (method_header table (Ref 0)) is_method (λ (o : Object). slice_get o.fields 0) dead.Field word (header_looks (Ref 0)) c kind.Method n l (Ok (record { 0 = 2 * l + 1 })) refl
    (ap (λ x. Went x tt) (sym (value_of-odd l)))) k e

literal_in : (n l i : ℕ) → i < l → slice_get (fresh 0 kind.Method n l).fields (i + 1) ≡ Some nil
literal_in n l i h = let e : i + 1 ≡ suc i = omega arith in ap (slice_get (Small l ∷ replicate l nil)) e ∙ got_nth l i nil h

literal_out : (n l i : ℕ) → l ≤ i → slice_get (fresh 0 kind.Method n l).fields (i + 1) ≡ None
literal_out n l i h = let e : i + 1 ≡ suc i = omega arith in ap (slice_get (Small l ∷ replicate l nil)) e ∙ got_none l i nil h

pub literal_right : (c : ℕ) (k : Kind) (n l i : ℕ) → is_method k ≡ true → i < l → Reads (literal table (Ref 0) i) word (alone (fresh c k n l)) (Ok (record { 0 = 2 }))
literal_right c k n l i e h =
    by_method (λ k. Reads (literal table (Ref 0) i) word (alone (fresh c k n l)) (Ok (record { 0 = 2 })))
    (right_kind (literal table (Ref 0) i) is_method (λ (o : Object). slice_get o.fields (i + 1)) dead.Field word (literal_looks (Ref 0) i) c kind.Method n l (Ok (record { 0 = 2 })) refl
    (ap (or_got dead.Field) (literal_in n l i h) ∙ ap (λ x. Went x tt) (sym value_of-nil))) k e

pub literal_past : (c : ℕ) (k : Kind) (n l i : ℕ) → is_method k ≡ true → l ≤ i → Reads (literal table (Ref 0) i) word (alone (fresh c k n l)) (Err dead.Field)
literal_past c k n l i e h =
    by_method (λ k. Reads (literal table (Ref 0) i) word (alone (fresh c k n l)) (Err dead.Field))
    (right_kind (literal table (Ref 0) i) is_method (λ (o : Object). slice_get o.fields (i + 1)) dead.Field word (literal_looks (Ref 0) i) c kind.Method n l (Err dead.Field) refl
    (ap (or_got dead.Field) (literal_out n l i h))) k e

last_in : (n l i : ℕ) → i < l → from_last (fresh 0 kind.Method n l) i ≡ Some nil
last_in n l i h =
    let long = length-replicate l nil in
    let t : nat_lt (i + 1) (suc (length (replicate l nil))) ≡ true = grind (arith, nat_tests, long) in
    let e : suc (length (replicate l nil)) - (i + 1) ≡ suc (l - (i + 1)) = omega (arith, h, long) in
    ap (λ b. if b then slice_get (Small l ∷ replicate l nil) (suc (length (replicate l nil)) - (i + 1)) else None) t
    ∙ ap (slice_get (Small l ∷ replicate l nil)) e ∙ got_nth l (l - (i + 1)) nil (omega (arith, h))

last_out : (n l i : ℕ) → l ≤ i → from_last (fresh 0 kind.Method n l) i ≡ None
last_out n l i h =
    let long = length-replicate l nil in
    let t : nat_lt (i + 1) (suc (length (replicate l nil))) ≡ false = grind (arith, nat_tests, long) in
    ap (λ b. if b then slice_get (Small l ∷ replicate l nil) (suc (length (replicate l nil)) - (i + 1)) else None) t

pub last_right : (c : ℕ) (k : Kind) (n l i : ℕ) → is_method k ≡ true → i < l → Reads (literal_from_last table (Ref 0) i) word (alone (fresh c k n l)) (Ok (record { 0 = 2 }))
last_right c k n l i e h =
    by_method (λ k. Reads (literal_from_last table (Ref 0) i) word (alone (fresh c k n l)) (Ok (record { 0 = 2 })))
    (right_kind (literal_from_last table (Ref 0) i) is_method (λ (o : Object). from_last o i) dead.Field word (last_looks (Ref 0) i) c kind.Method n l (Ok (record { 0 = 2 })) refl
    (ap (or_got dead.Field) (last_in n l i h) ∙ ap (λ x. Went x tt) (sym value_of-nil))) k e

pub last_past : (c : ℕ) (k : Kind) (n l i : ℕ) → is_method k ≡ true → l ≤ i → Reads (literal_from_last table (Ref 0) i) word (alone (fresh c k n l)) (Err dead.Field)
last_past c k n l i e h =
    by_method (λ k. Reads (literal_from_last table (Ref 0) i) word (alone (fresh c k n l)) (Err dead.Field))
    (right_kind (literal_from_last table (Ref 0) i) is_method (λ (o : Object). from_last o i) dead.Field word (last_looks (Ref 0) i) c kind.Method n l (Err dead.Field) refl
    (ap (or_got dead.Field) (last_out n l i h))) k e

-- words and bytes

pub word_right : (c : ℕ) (k : Kind) (n l i : ℕ) → is_words k ≡ true → i < n → Reads (fetch_word table (Ref 0) i) itself (alone (fresh c k n l)) (Ok 0)
word_right c kind.Pointers n l i e h = cc
word_right c kind.Words n l i e h =
    right_kind (fetch_word table (Ref 0) i) is_words (λ (o : Object). slice_get o.units i) dead.Field itself (word_looks (Ref 0) i) c kind.Words n l (Ok 0) refl
    (ap (or_got dead.Field) (got_nth {A = ℕ} n i 0 h))
word_right c kind.Bytes n l i e h = cc
word_right c kind.Method n l i e h = cc

pub word_past : (c : ℕ) (k : Kind) (n l i : ℕ) → is_words k ≡ true → n ≤ i → Reads (fetch_word table (Ref 0) i) itself (alone (fresh c k n l)) (Err dead.Field)
word_past c kind.Pointers n l i e h = cc
word_past c kind.Words n l i e h =
    right_kind (fetch_word table (Ref 0) i) is_words (λ (o : Object). slice_get o.units i) dead.Field itself (word_looks (Ref 0) i) c kind.Words n l (Err dead.Field) refl
    (ap (or_got dead.Field) (got_none {A = ℕ} n i 0 h))
word_past c kind.Bytes n l i e h = cc
word_past c kind.Method n l i e h = cc

-- where the first byte of a method or of an object of kind Bytes stands
abbrev pub first_of : Kind → ℕ → ℕ
first_of kind.Pointers l = 0
first_of kind.Words l = 0
first_of kind.Bytes l = 0
first_of kind.Method l = 2 * l + 2

first_is : (c n l : ℕ) → first_unit (fresh c kind.Method n l) ≡ 2 * l + 2
first_is c n l = let long = length-replicate l nil in omega (arith, long)

-- its bytes are as many as its size leaves
bytes_in : (k : Kind) (c n l i : ℕ) → has_bytes k ≡ true → first_of k l ≤ i → i < n → slice_get (fresh c k n l).units (i - first_unit (fresh c k n l)) ≡ Some 0
bytes_in kind.Pointers c n l i e a h = cc
bytes_in kind.Words c n l i e a h = cc
bytes_in kind.Bytes c n l i e a h = got_nth {A = ℕ} n (i - 2 * 0) 0 (omega (arith, h))
bytes_in kind.Method c n l i e a h =
    let f = first_is c n l in
    got_nth {A = ℕ} (n - 2 * (l + 1)) (i - first_unit (fresh c kind.Method n l)) 0 (omega (arith, f, a, h))

bytes_out : (k : Kind) (c n l i : ℕ) → has_bytes k ≡ true → first_of k l ≤ i → n ≤ i → slice_get (fresh c k n l).units (i - first_unit (fresh c k n l)) ≡ None
bytes_out kind.Pointers c n l i e a h = cc
bytes_out kind.Words c n l i e a h = cc
bytes_out kind.Bytes c n l i e a h = got_none {A = ℕ} n (i - 2 * 0) 0 (omega (arith, h))
bytes_out kind.Method c n l i e a h =
    let f = first_is c n l in
    got_none {A = ℕ} (n - 2 * (l + 1)) (i - first_unit (fresh c kind.Method n l)) 0 (omega (arith, f, a, h))

first_fresh : (k : Kind) (c n l : ℕ) → has_bytes k ≡ true → first_unit (fresh c k n l) ≡ first_of k l
first_fresh kind.Pointers c n l e = cc
first_fresh kind.Words c n l e = cc
first_fresh kind.Bytes c n l e = omega arith
first_fresh kind.Method c n l e = first_is c n l

module _ (k : Kind) (c n l i : ℕ) (e : has_bytes k ≡ true) where
  byte_by : (b : Bool) → nat_le (first_unit (fresh c k n l)) i ≡ b → byte_in i (fresh c k n l) ≡ (if b then slice_get (fresh c k n l).units (i - first_unit (fresh c k n l)) else None)
  byte_by b q = ap (λ x. if x then slice_get (fresh c k n l).units (i - first_unit (fresh c k n l)) else None) q

  pub byte_right : first_of k l ≤ i → i < n → Reads (fetch_byte table (Ref 0) i) itself (alone (fresh c k n l)) (Ok 0)
  byte_right a h =
      let f = first_fresh k c n l e in
      right_kind (fetch_byte table (Ref 0) i) has_bytes (byte_in i) dead.Field itself (fetch_byte_looks (Ref 0) i) c k n l (Ok 0) e
      (ap (or_got dead.Field) (byte_by true (grind (arith, nat_tests, f, a)) ∙ bytes_in k c n l i e a h))

  pub byte_past : first_of k l ≤ i → n ≤ i → Reads (fetch_byte table (Ref 0) i) itself (alone (fresh c k n l)) (Err dead.Field)
  byte_past a h =
      let f = first_fresh k c n l e in
      right_kind (fetch_byte table (Ref 0) i) has_bytes (byte_in i) dead.Field itself (fetch_byte_looks (Ref 0) i) c k n l (Err dead.Field) e
      (ap (or_got dead.Field) (byte_by true (grind (arith, nat_tests, f, a)) ∙ bytes_out k c n l i e a h))

  pub byte_before : i < first_of k l → Reads (fetch_byte table (Ref 0) i) itself (alone (fresh c k n l)) (Err dead.Field)
  byte_before h =
      let f = first_fresh k c n l e in
      right_kind (fetch_byte table (Ref 0) i) has_bytes (byte_in i) dead.Field itself (fetch_byte_looks (Ref 0) i) c k n l (Err dead.Field) e
      (ap (or_got dead.Field) (byte_by false (grind (arith, nat_tests, f, h))))

-- the bytes of a method by an instruction pointer

module _ (c : ℕ) (k : Kind) (n l : ℕ) (e : is_method k ≡ true) where
  method_bytes : has_bytes k ≡ true
  method_bytes = elim k as (λ x. is_method x ≡ true → has_bytes x ≡ true) [ kind.Pointers ↦ λ h. cc | kind.Words ↦ λ h. cc | kind.Bytes ↦ λ h. refl | kind.Method ↦ λ h. refl ] e

  first_code : first_of k l ≡ 2 * l + 2
  first_code = elim k as (λ x. is_method x ≡ true → first_of x l ≡ 2 * l + 2) [ kind.Pointers ↦ λ h. cc | kind.Words ↦ λ h. cc | kind.Bytes ↦ λ h. cc | kind.Method ↦ λ h. refl ] e

  code_by : (i : ℕ) (a b : Bool) → nat_lt i (first_unit (fresh c k n l)) ≡ a → nat_lt 16381 i ≡ b
      → code_byte (fresh c k n l) (pos i) ≡ (if a then None else if b then None else slice_get (fresh c k n l).units (i - first_unit (fresh c k n l)))
  code_by i a b q h =
      ap (λ x. if x then None else if nat_lt 16381 i then None else slice_get (fresh c k n l).units (i - first_unit (fresh c k n l))) q
      ∙ ap (λ x. if a then None else if x then None else slice_get (fresh c k n l).units (i - first_unit (fresh c k n l))) h

  code_is : (ip : ℤ) (r : Result ℕ Dead) → or_got dead.Ip (code_byte (fresh c k n l) ip) ≡ result_got itself r → Reads (byte_at table (Ref 0) ip) itself (alone (fresh c k n l)) r
  code_is ip r h = right_kind (byte_at table (Ref 0) ip) is_method (λ (o : Object). code_byte o ip) dead.Ip itself (byte_looks (Ref 0) ip) c k n l r e h

  pub code_below : (i : ℕ) → Reads (byte_at table (Ref 0) (negsuc i)) itself (alone (fresh c k n l)) (Err dead.Ip)
  code_below i = code_is (negsuc i) (Err dead.Ip) refl

  pub code_before : (i : ℕ) → i < 2 * l + 2 → Reads (byte_at table (Ref 0) (pos i)) itself (alone (fresh c k n l)) (Err dead.Ip)
  code_before i h =
      let f = first_fresh k c n l method_bytes ∙ first_code in
      code_is (pos i) (Err dead.Ip) (ap (or_got dead.Ip) (code_by i true (nat_lt 16381 i) (grind (arith, nat_tests, f, h)) refl))

  pub code_far : (i : ℕ) → 2 * l + 2 ≤ i → 16381 < i → Reads (byte_at table (Ref 0) (pos i)) itself (alone (fresh c k n l)) (Err dead.Ip)
  code_far i a h =
      let f = first_fresh k c n l method_bytes ∙ first_code in
      code_is (pos i) (Err dead.Ip) (ap (or_got dead.Ip) (code_by i false true (grind (arith, nat_tests, f, a)) (grind (arith, nat_tests, h))))

  pub code_right : (i : ℕ) → 2 * l + 2 ≤ i → i ≤ 16381 → i < n → Reads (byte_at table (Ref 0) (pos i)) itself (alone (fresh c k n l)) (Ok 0)
  code_right i a b h =
      let f = first_fresh k c n l method_bytes ∙ first_code in
      let q = first_code in
      code_is (pos i) (Ok 0)
      (ap (or_got dead.Ip) (code_by i false false (grind (arith, nat_tests, f, a)) (grind (arith, nat_tests, b)) ∙ bytes_in k c n l i method_bytes (omega (arith, q, a)) h))

  pub code_past : (i : ℕ) → 2 * l + 2 ≤ i → i ≤ 16381 → n ≤ i → Reads (byte_at table (Ref 0) (pos i)) itself (alone (fresh c k n l)) (Err dead.Ip)
  code_past i a b h =
      let f = first_fresh k c n l method_bytes ∙ first_code in
      let q = first_code in
      code_is (pos i) (Err dead.Ip)
      (ap (or_got dead.Ip) (code_by i false false (grind (arith, nat_tests, f, a)) (grind (arith, nat_tests, b)) ∙ bytes_out k c n l i method_bytes (omega (arith, q, a)) h))

pub ruleset codes = (code_wrong, code_below, code_before, code_far, code_right, code_past)

-- the header and the literals as fields

pub method_field_wrong : (c : ℕ) (k : Kind) (n l i : ℕ) → is_method k ≡ false → Reads (fetch_method_field table (Ref 0) i) word (alone (fresh c k n l)) (Err dead.Kind)
method_field_wrong c k n l i e = wrong_kind (fetch_method_field table (Ref 0) i) is_method (λ (o : Object). slice_get o.fields i) dead.Field word (method_field_looks (Ref 0) i) c k n l e

module _ (c : ℕ) (k : Kind) (n l i : ℕ) (e : is_method k ≡ true) where
  method_field_by : (r : Result Word Dead) → or_got dead.Field (slice_get (Small l ∷ replicate l nil) i) ≡ result_got word r → Reads (fetch_method_field table (Ref 0) i) word (alone (fresh c k n l)) r
  method_field_by r h =
      right_kind (fetch_method_field table (Ref 0) i) is_method (λ (o : Object). slice_get o.fields i) dead.Field word (method_field_looks (Ref 0) i) c k n l r e
      (elim k as (λ x. is_method x ≡ true → or_got dead.Field (slice_get (fresh c x n l).fields i) ≡ result_got word r) [ kind.Pointers ↦ λ q. cc | kind.Words ↦ λ q. cc | kind.Bytes ↦ λ q. cc | kind.Method ↦ λ q. h ] e)

  pub method_field_header : i ≡ 0 → Reads (fetch_method_field table (Ref 0) i) word (alone (fresh c k n l)) (Ok (record { 0 = 2 * l + 1 }))
  method_field_header z = method_field_by (Ok (record { 0 = 2 * l + 1 })) (ap (λ j. or_got dead.Field (slice_get (Small l ∷ replicate l nil) j)) z ∙ ap (λ x. Went x tt) (sym (value_of-odd l)))

  pub method_field_literal : 0 < i → i ≤ l → Reads (fetch_method_field table (Ref 0) i) word (alone (fresh c k n l)) (Ok (record { 0 = 2 }))
  method_field_literal p h =
      let q : i ≡ suc (i - 1) = omega (arith, p) in
      method_field_by (Ok (record { 0 = 2 }))
      (ap (or_got dead.Field) (ap (slice_get (Small l ∷ replicate l nil)) q ∙ got_nth l (i - 1) nil (omega (arith, p, h))) ∙ ap (λ x. Went x tt) (sym value_of-nil))

  pub method_field_past : l < i → Reads (fetch_method_field table (Ref 0) i) word (alone (fresh c k n l)) (Err dead.Field)
  method_field_past h =
      let q : i ≡ suc (i - 1) = omega (arith, h) in
      method_field_by (Err dead.Field) (ap (or_got dead.Field) (ap (slice_get (Small l ∷ replicate l nil)) q ∙ got_none l (i - 1) nil (omega (arith, h))))

pub ruleset method_fields = (method_field_wrong, method_field_header, method_field_literal, method_field_past)

pub ruleset counts = (count_wrong, count_right)

pub ruleset headers = (header_wrong, header_right)

pub ruleset literals = (literal_wrong, literal_right, literal_past)

pub ruleset lasts = (last_wrong, last_right, last_past)

pub ruleset words = (word_wrong, word_right, word_past)

pub ruleset bytes = (byte_wrong, byte_right, byte_past, byte_before)
