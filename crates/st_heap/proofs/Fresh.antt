-- The words of a new object are those of the object that is wanted.
use Rattle.std.proofs.Common.{◌≡◌, ◌≢◌, ℕ, ◌+◌, ◌-◌, ◌*◌, ◌/◌, ◌%◌, ◌<◌, ◌≤◌, zero, suc, Bool, true, false, List, [], ◌∷◌, length, get_or, map, replicate, refl, sym, ap, ◌∙◌, arith, inl, inr}
use Rattle.std.specs.Prelude.{◌==◌, ◌&&◌, nat_lt, nat_eq, if◌then◌else◌}
use Rattle.std.proofs.lemmas.Bool.{cases_lt}
use Rattle.std.proofs.lemmas.List.{length-map, length-replicate, get_or-replicate, get_or_past, ext_get_or, get_or-map}
use Rattle.st_model.specs.declared.kind.Kind.TheVariants.{Pointers, Words, Bytes, Method}
use Rattle.st_model.specs.declared.oop.Oop.{Oop}
use Rattle.st_model.specs.Values.{Value, Small, value_of}
use Rattle.st_model.specs.Objects.{Object, nil, is_words, is_method}
use Rattle.st_model.specs.Formed.{literals_of, IsMakeable, fresh}
use Rattle.st_model.proofs.Pointers.{value_of-odd, value_of-pointer}
use Rattle.st_heap.specs.declared.adding.ObjectLayout.{ObjectLayout}
use Rattle.st_heap.specs.inside.Stored.{Stored, run}
use Rattle.st_cells.specs.inside.Words.{byte_of}
use Rattle.st_heap.specs.inside.Forms.{cell, field_count, unit_count, unit_at, object_from, IsSound}
use Rattle.st_heap.specs.inside.Fresh.{new_cell, new_stored, IsForm}
use Rattle.st_heap.proofs.Runs.{length-run, get_or-run}

run_const : (f : ℕ → ℕ) (n w : ℕ) → ((i : ℕ) → i < n → f i ≡ w) → run f n ≡ replicate n w
run_const f n w h = ext_get_or 0 (run f n) (replicate n w) (length-run f n ∙ sym (length-replicate n w)) (λ i l.
    let long = length-run f n in
    let l' : i < n = omega (arith, l, long) in
    get_or-run f n i 0 l' ∙ h i l' ∙ sym (get_or-replicate n i w 0 l'))

-- the values of words are those of a list
values_are : (g : ℕ → ℕ) (n : ℕ) (xs : List Value) → length xs ≡ n → ((i : ℕ) → i < n → value_of (g i) ≡ get_or xs i nil) → map value_of (run g n) ≡ xs
values_are g n xs size h =
    let long : length (map value_of (run g n)) ≡ n = length-map (run g n) value_of ∙ length-run g n in
    ext_get_or nil (map value_of (run g n)) xs (long ∙ sym size) (λ i l.
    let l' : i < n = omega (arith, l, long) in
    let within = length-run g n in
    get_or-map value_of (run g n) i 0 nil (omega (arith, l', within)) ∙ ap value_of (get_or-run g n i 0 l') ∙ h i l')

no_byte : (i : ℕ) → byte_of 0 i ≡ 0
no_byte i = by_half (i % 2 == 0)
  where
    by_half : (b : Bool) → (if b then 0 / 256 else 0 % 256) ≡ 0
    by_half true = refl
    by_half false = refl

module _ (f : ObjectLayout) (form : IsForm f) where
  abbrev s : Stored
  s = new_stored f

  many : 2 ≤ f.words
  many = let h = form.fields in omega (arith, h)

  cell_new : (i : ℕ) → i < f.words → cell s i ≡ new_cell f i
  cell_new i l = get_or-run (new_cell f) f.words i 0 l

  cell_class : cell s 1 ≡ f.class.0
  cell_class = cell_new 1 (let m = many in omega (arith, m))

  -- the words behind the fields
  cell_zero : (m : ℕ) → cell s (2 + f.fields + m) ≡ 0
  cell_zero m = elim (cases_lt (2 + f.fields + m) f.words) [
    | inl l ↦ cell_new (2 + f.fields + m) l ∙ by_tests (2 + f.fields + m == 0) (2 + f.fields + m == 1) (nat_lt (2 + f.fields + m) (2 + f.fields)) refl refl refl
    | inr l ↦ let long = length-run (new_cell f) f.words in get_or_past s.cells (2 + f.fields + m) 0 (omega (arith, l, long))
  ]
    where
      by_tests : (a b c : Bool) → (2 + f.fields + m == 0) ≡ a → (2 + f.fields + m == 1) ≡ b → nat_lt (2 + f.fields + m) (2 + f.fields) ≡ c
          → (if a then f.words else if b then f.class.0 else if c then (if is_method f.kind && 2 + f.fields + m == 2 then 2 * f.literals + 1 else 2) else 0) ≡ 0
      by_tests true b c p q r = absurd (grind (arith, p))
      by_tests false true c p q r = absurd (grind (arith, q))
      by_tests false false true p q r = absurd (grind (arith, r))
      by_tests false false false p q r = refl

  -- the words of the fields
  cell_field : (i : ℕ) → i < f.fields → cell s (2 + i) ≡ (if is_method f.kind && 2 + i == 2 then 2 * f.literals + 1 else 2)
  cell_field i l = cell_new (2 + i) (let h = form.fields in omega (arith, l, h)) ∙ by_tests (2 + i == 0) (2 + i == 1) (nat_lt (2 + i) (2 + f.fields)) refl refl refl
    where
      by_tests : (a b c : Bool) → (2 + i == 0) ≡ a → (2 + i == 1) ≡ b → nat_lt (2 + i) (2 + f.fields) ≡ c
          → (if a then f.words else if b then f.class.0 else if c then (if is_method f.kind && 2 + i == 2 then 2 * f.literals + 1 else 2) else 0) ≡ (if is_method f.kind && 2 + i == 2 then 2 * f.literals + 1 else 2)
      by_tests true b c p q r = absurd (grind (arith, p))
      by_tests false true c p q r = absurd (grind (arith, q))
      by_tests false false false p q r = absurd (grind (arith, r, l))
      by_tests false false true p q r = refl

  unit_zero : (j : ℕ) → field_count s ≡ f.fields → unit_at s j ≡ 0
  unit_zero j count =
      (λ i. if is_words f.kind then cell s (2 + count i + j) else byte_of (cell s (2 + count i + j / 2)) j)
      ∙ (λ i. if is_words f.kind then cell_zero j i else byte_of (cell_zero (j / 2) i) j)
      ∙ by_kind (is_words f.kind)
    where
      by_kind : (b : Bool) → (if b then 0 else byte_of 0 j) ≡ 0
      by_kind true = refl
      by_kind false = no_byte j

  pub new_object : (xs : List Value) (m : ℕ) → length xs ≡ f.fields → ((i : ℕ) → i < f.fields → value_of (cell s (2 + i)) ≡ get_or xs i nil) → field_count s ≡ f.fields → unit_count s ≡ m
      → object_from s ≡ record { class = f.class.0 / 2; kind = f.kind; fields = xs; units = replicate m 0 }
  new_object xs m long values count units =
      let a = ap (λ w. w / 2) cell_class in
      let b : map value_of (run (λ i. cell s (2 + i)) (field_count s)) ≡ xs = ap (λ n. map value_of (run (λ i. cell s (2 + i)) n)) count ∙ values_are (λ i. cell s (2 + i)) f.fields xs long values in
      let c : run (unit_at s) (unit_count s) ≡ replicate m 0 = ap (run (unit_at s)) units ∙ run_const (unit_at s) m 0 (λ j l. unit_zero j count) in
      λ i. record { class = a i; kind = f.kind; fields = b i; units = c i }

  pub new_sound : f.class.0 % 2 ≡ 0 → field_count s ≡ f.fields → (f.odd ≡ true → 2 + f.fields < f.words) → IsSound s
  new_sound even count odd =
      let long = length-run (new_cell f) f.words in
      let small = form.small in
      let fields = form.fields in
      record {
        size = cell_new 0 (let m = many in omega (arith, m)) ∙ sym long;
        small = omega (arith, small, long);
        class = ap (λ w. w % 2) cell_class ∙ even;
        fields = omega (arith, fields, long, count);
        odd = λ o. let l = odd o in omega (arith, l, long, count);
      }

  -- a field that is no header
  pub field_nil : (i : ℕ) → i < f.fields → is_method f.kind ≡ false → value_of (cell s (2 + i)) ≡ nil
  field_nil i l other = ap value_of (cell_field i l ∙ ap (λ b. if b && 2 + i == 2 then 2 * f.literals + 1 else 2) other) ∙ value_of-pointer 1

  pub field_header : 0 < f.fields → is_method f.kind ≡ true → cell s 2 ≡ 2 * f.literals + 1
  field_header l method = cell_field 0 l ∙ ap (λ b. if b && 2 == 2 then 2 * f.literals + 1 else 2) method

  pub field_literal : (i : ℕ) → suc i < f.fields → value_of (cell s (2 + suc i)) ≡ nil
  field_literal i l = ap value_of (cell_field (suc i) l ∙ by_test (is_method f.kind) (2 + suc i == 2) refl) ∙ value_of-pointer 1
    where
      by_test : (a b : Bool) → (2 + suc i == 2) ≡ b → (if a && b then 2 * f.literals + 1 else 2) ≡ 2
      by_test a true q = absurd (grind (arith, q))
      by_test true false q = refl
      by_test false false q = refl

literals_small : (n : ℕ) → n ≤ 63 → literals_of (value_of (2 * n + 1)) ≡ n
literals_small n few = ap literals_of (value_of-odd n) ∙ omega (arith, few)

module _ (class : Oop) (size literals : ℕ) where
  abbrev pointers : ObjectLayout
  pointers = record { class = class; kind = Pointers; odd = false; fields = size; literals = literals; words = 2 + size }

  abbrev words : ObjectLayout
  words = record { class = class; kind = Words; odd = false; fields = 0; literals = literals; words = 2 + size }

  abbrev bytes : ObjectLayout
  bytes = record { class = class; kind = Bytes; odd = nat_eq (size % 2) 1; fields = 0; literals = literals; words = 2 + (size + 1) / 2 }

  abbrev method : ObjectLayout
  method = record { class = class; kind = Method; odd = nat_eq (size % 2) 1; fields = literals + 1; literals = literals; words = 2 + (size + 1) / 2 }

  -- the kind that a form is of
  pub record IsNew (f : ObjectLayout) (o : Object) : Type 0 where
    pub fresh : object_from (new_stored f) ≡ o
    pub sound : IsSound (new_stored f)
    pub form : IsForm f

  pub new_pointers : class.0 % 2 ≡ 0 → IsMakeable (class.0 / 2) Pointers size literals → IsNew pointers (fresh (class.0 / 2) Pointers size literals)
  new_pointers even makeable =
      let few = makeable.few in
      let body = makeable.body in
      let long = length-replicate size nil in
      let form : IsForm pointers = record { fields = omega arith; small = omega (arith, body, long); few = few } in
      let cells = length-run (new_cell pointers) (2 + size) in
      let count : field_count (new_stored pointers) ≡ size = omega (arith, cells) in
      let units : unit_count (new_stored pointers) ≡ 0 = omega (arith, cells, count) in
      record {
        fresh = new_object pointers form (replicate size nil) 0 long (λ i l. field_nil pointers form i l refl ∙ sym (get_or-replicate size i nil nil l)) count units;
        sound = new_sound pointers form even count (λ q. cc);
        form = form;
      }

  pub new_words : class.0 % 2 ≡ 0 → IsMakeable (class.0 / 2) Words size literals → IsNew words (fresh (class.0 / 2) Words size literals)
  new_words even makeable =
      let few = makeable.few in
      let body = makeable.body in
      let long = length-replicate {A = ℕ} size 0 in
      let form : IsForm words = record { fields = omega arith; small = omega (arith, body, long); few = few } in
      let cells = length-run (new_cell words) (2 + size) in
      let units : unit_count (new_stored words) ≡ size = omega (arith, cells) in
      record {
        fresh = new_object words form [] size refl (λ i l. absurd (omega (arith, l))) refl units;
        sound = new_sound words form even refl (λ q. cc);
        form = form;
      }

  half_units : (n : ℕ) → 2 * ((n + 1) / 2) - (if nat_eq (n % 2) 1 then 1 else 0) ≡ n
  half_units n = by_test (nat_eq (n % 2) 1) refl
    where
      by_test : (b : Bool) → nat_eq (n % 2) 1 ≡ b → 2 * ((n + 1) / 2) - (if b then 1 else 0) ≡ n
      by_test true q = let odd : n % 2 ≡ 1 = grind (arith, q) in omega (arith, odd)
      by_test false q = let even : n % 2 ≢ 1 = λ z. grind (arith, q, z) in omega (arith, even)

  some_odd : nat_eq (size % 2) 1 ≡ true → size % 2 ≡ 1
  some_odd q = grind (arith, q)

  pub new_bytes : class.0 % 2 ≡ 0 → IsMakeable (class.0 / 2) Bytes size literals → IsNew bytes (fresh (class.0 / 2) Bytes size literals)
  new_bytes even makeable =
      let few = makeable.few in
      let body = makeable.body in
      let long = length-replicate {A = ℕ} size 0 in
      let form : IsForm bytes = record { fields = omega arith; small = omega (arith, body, long); few = few } in
      let cells = length-run (new_cell bytes) (2 + (size + 1) / 2) in
      let units : unit_count (new_stored bytes) ≡ size = ap (λ n. 2 * (n - 2) - (if nat_eq (size % 2) 1 then 1 else 0)) cells ∙ ap (λ n. 2 * n - (if nat_eq (size % 2) 1 then 1 else 0)) (rest ((size + 1) / 2)) ∙ half_units size in
      record {
        fresh = new_object bytes form [] size refl (λ i l. absurd (omega (arith, l))) refl units;
        sound = new_sound bytes form even refl (λ q. let odd = some_odd q in omega (arith, odd));
        form = form;
      }
    where
      rest : (n : ℕ) → 2 + n - 2 ≡ n
      rest n = omega arith

  pub new_method : class.0 % 2 ≡ 0 → IsMakeable (class.0 / 2) Method size literals → IsNew method (fresh (class.0 / 2) Method size literals)
  new_method even makeable =
      let few = makeable.few in
      let body = makeable.body in
      let header = makeable.header refl in
      let long = length-replicate literals nil in
      let units_long = length-replicate {A = ℕ} (size - 2 * (literals + 1)) 0 in
      let form : IsForm method = record { fields = omega (arith, header); small = omega (arith, body, long, units_long, header); few = few } in
      let cells = length-run (new_cell method) (2 + (size + 1) / 2) in
      let first = field_header method form (omega arith) refl in
      let count : field_count (new_stored method) ≡ literals + 1 = ap (λ w. literals_of (value_of w) + 1) first ∙ ap (λ n. n + 1) (literals_small literals few) in
      let units : unit_count (new_stored method) ≡ size - 2 * (literals + 1) =
      ap (λ n. 2 * (n - (2 + field_count (new_stored method))) - (if nat_eq (size % 2) 1 then 1 else 0)) cells
      ∙ ap (λ n. 2 * (2 + (size + 1) / 2 - (2 + n)) - (if nat_eq (size % 2) 1 then 1 else 0)) count
      ∙ rest (literals + 1) (if nat_eq (size % 2) 1 then 1 else 0) (half_units size) (omega (arith, header)) in
      record {
        fresh = new_object method form (Small literals ∷ replicate literals nil) (size - 2 * (literals + 1)) (omega (arith, long)) (fields form) count units;
        sound = new_sound method form even count (λ q. let odd = some_odd q in omega (arith, odd, header));
        form = form;
      }
    where
      rest : (l odd : ℕ) → 2 * ((size + 1) / 2) - odd ≡ size → 2 * l ≤ size → 2 * (2 + (size + 1) / 2 - (2 + l)) - odd ≡ size - 2 * l
      rest l odd whole most = omega (arith, whole, most)

      fields : (form : IsForm method) → (i : ℕ) → i < literals + 1 → value_of (cell (new_stored method) (2 + i)) ≡ get_or (Small literals ∷ replicate literals nil) i nil
      fields form zero l = ap value_of (field_header method form (omega arith) refl) ∙ value_of-odd literals
      fields form (suc i) l = field_literal method form i l ∙ sym (get_or-replicate literals i nil nil (omega (arith, l)))
