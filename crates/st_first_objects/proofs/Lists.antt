-- Lists of fields.
use Rattle.std.proofs.Common.{◌≡◌, ℕ, zero, suc, ◌+◌, ◌-◌, ◌<◌, Bool, true, false, cond, List, [], ◌∷◌, ◌++◌, drop, get_or, length, replicate, refl, sym, ap, ◌∙◌, arith}
use Rattle.std.specs.Prelude.{Some, slice_get, filter, map, unwrap_or}
use Rattle.std.proofs.lemmas.Option.{unwrap_or-slice_get}
use Rattle.st_first_objects.specs.declared.content.Field as code_field
use Rattle.st_first_objects.specs.declared.content.Field.TheVariants.{Empty as code_empty}
use Rattle.st_first_objects.specs.Things.{Thing}
use Rattle.st_first_objects.specs.Contents.{Field, Empty, To, all_of, padded}
use Rattle.st_first_objects.specs.declared.thing.What.{What}
use Rattle.st_first_objects.specs.Things.{numbered}
use Rattle.st_first_objects.specs.Orders.{numbered_from}
use Rattle.st_first_objects.proofs.Wanting.{numbered_next, numbered_none}
use Rattle.st_first_objects.specs.Pointers.{value_in}
use Rattle.st_first_objects.specs.inside.Views.{field_of, fields_of}

pub drop_got : {A : Type 0} (xs : List A) (i : ℕ) (x : A) → slice_get xs i ≡ Some x → drop i xs ≡ x ∷ drop (i + 1) xs
drop_got [] i x e = cc
drop_got (y ∷ xs) zero x e = by e
  where
    by : slice_get (y ∷ xs) 0 ≡ Some x → (y ∷ xs) ≡ x ∷ xs
    by e = let s : y ≡ x = cc in ap (λ z. z ∷ xs) s
drop_got (y ∷ xs) (suc i) x e = let m : i + 1 ≡ suc i = omega arith in drop_got xs i x e ∙ ap (λ n. x ∷ drop n xs) m ∙ (let k : suc i + 1 ≡ suc (suc i) = omega arith in sym (ap (λ n. x ∷ drop n (y ∷ xs)) k))

pub fields_more : (fs gs : List code_field.Field) → fields_of (fs ++ gs) ≡ fields_of fs ++ fields_of gs
fields_more [] gs = refl
fields_more (f ∷ fs) gs = ap (λ (xs : List Field). field_of f ∷ xs) (fields_more fs gs)

pub append_assoc : {A : Type 0} (xs ys zs : List A) → (xs ++ ys) ++ zs ≡ xs ++ (ys ++ zs)
append_assoc [] ys zs = refl
append_assoc (x ∷ xs) ys zs = ap (λ (ts : List _). x ∷ ts) (append_assoc xs ys zs)

-- one field more is of those that are left
pub pushed : (fs new : List code_field.Field) (f : code_field.Field) (t : Thing) (rest whole : List Field)
    → new ≡ fs ++ f ∷ [] → field_of f ≡ To t → fields_of fs ++ To t ∷ rest ≡ whole → fields_of new ++ rest ≡ whole
pushed fs new f t rest whole is to before =
    ap (λ xs. fields_of xs ++ rest) is
    ∙ ap (λ (xs : List Field). xs ++ rest) (fields_more fs (f ∷ []))
    ∙ append_assoc (fields_of fs) (field_of f ∷ []) rest
    ∙ ap (λ (x : Field). fields_of fs ++ x ∷ rest) to
    ∙ before

-- a thing that passes the test is the next one, and one that doesn't is passed over
pub filtered : (p : Thing → Bool) (ts : List Thing) (i : ℕ) (t : Thing) (b : Bool) → slice_get ts i ≡ Some t → p t ≡ b
    → all_of (filter p (drop i ts)) ≡ cond b (To t ∷ all_of (filter p (drop (i + 1) ts))) (all_of (filter p (drop (i + 1) ts)))
filtered p ts i t b got is = ap (λ xs. all_of (filter p xs)) (drop_got ts i t got) ∙ by (p t) ∙ ap (λ c. cond c (To t ∷ all_of (filter p (drop (i + 1) ts))) (all_of (filter p (drop (i + 1) ts)))) is
  where
    by : (c : Bool) → all_of (cond c (t ∷ filter p (drop (i + 1) ts)) (filter p (drop (i + 1) ts))) ≡ cond c (To t ∷ all_of (filter p (drop (i + 1) ts))) (all_of (filter p (drop (i + 1) ts)))
    by true = refl
    by false = refl

pub copies : (fs : List code_field.Field) (n : ℕ) (f : code_field.Field) → fs ≡ replicate n f → fields_of fs ≡ replicate n (field_of f)
copies fs n f is = ap fields_of is ∙ by n
  where
    by : (m : ℕ) → fields_of (replicate m f) ≡ replicate m (field_of f)
    by zero = refl
    by (suc m) = ap (λ (xs : List Field). field_of f ∷ xs) (by m)

pub append_nil : {A : Type 0} (xs : List A) → xs ++ [] ≡ xs
append_nil [] = refl
append_nil (x ∷ xs) = ap (λ (ts : List _). x ∷ ts) (append_nil xs)

none_left : (n : ℕ) → drop {A = Field} n [] ≡ []
none_left zero = refl
none_left (suc n) = refl

-- the field at a place, or nil
pub padded_at : (n : ℕ) (fs : List Field) (i : ℕ) → i < n → padded (n - i) (drop i fs) ≡ unwrap_or (slice_get fs i) Empty ∷ padded (n - (i + 1)) (drop (i + 1) fs)
padded_at n [] i lt =
    let m : n - i ≡ suc (n - (i + 1)) = omega arith in
    ap (λ k. padded k (drop i [])) m ∙ ap (padded (suc (n - (i + 1)))) (none_left i)
    ∙ sym (ap (λ xs. Empty ∷ padded (n - (i + 1)) xs) (none_left (i + 1)))
padded_at n (f ∷ fs) zero lt = let m : n - 0 ≡ suc (n - (0 + 1)) = omega arith in ap (λ k. padded k (f ∷ fs)) m
padded_at n (f ∷ fs) (suc i) lt =
    let more = padded_at (n - 1) fs i (omega arith) in
    let a : n - suc i ≡ (n - 1) - i = omega arith in
    let b : (n - 1) - (i + 1) ≡ n - (suc i + 1) = omega arith in
    let c : suc i + 1 ≡ suc (i + 1) = omega arith in
    ap (λ k. padded k (drop i fs)) a ∙ more ∙ ap (λ k. unwrap_or (slice_get fs i) Empty ∷ padded k (drop (i + 1) fs)) b
    ∙ sym (ap (λ k. unwrap_or (slice_get fs i) Empty ∷ padded (n - (suc i + 1)) (drop k (f ∷ fs))) c)

pub field_at : (fs : List code_field.Field) (i : ℕ) → unwrap_or (slice_get (fields_of fs) i) Empty ≡ field_of (unwrap_or (slice_get fs i) code_empty)
field_at [] i = refl
field_at (f ∷ fs) zero = refl
field_at (f ∷ fs) (suc i) = field_at fs i

-- a field more at its place
pub pushed_at : (fs new ms : List code_field.Field) (f : code_field.Field) (n i : ℕ) (whole : List Field) → i < n
    → new ≡ fs ++ f ∷ [] → f ≡ get_or ms i code_empty
    → fields_of fs ++ padded (n - i) (drop i (fields_of ms)) ≡ whole
    → fields_of new ++ padded (n - (i + 1)) (drop (i + 1) (fields_of ms)) ≡ whole
pushed_at fs new ms f n i whole lt is got before =
    let rest = padded (n - (i + 1)) (drop (i + 1) (fields_of ms)) in
    ap (λ xs. fields_of xs ++ rest) is
    ∙ ap (λ (xs : List Field). xs ++ rest) (fields_more fs (f ∷ []))
    ∙ append_assoc (fields_of fs) (field_of f ∷ []) rest
    ∙ ap (λ (x : Field). fields_of fs ++ x ∷ rest) (ap field_of (got ∙ sym (unwrap_or-slice_get ms i code_empty)) ∙ sym (field_at ms i))
    ∙ ap (λ (xs : List Field). fields_of fs ++ xs) (sym (padded_at n (fields_of ms) i lt))
    ∙ before

-- things of numbers
pub pushed_next : (fs new : List code_field.Field) (f : code_field.Field) (w : What) (n i : ℕ) (whole : List Field) → i < n
    → new ≡ fs ++ f ∷ [] → field_of f ≡ To (numbered w i)
    → fields_of fs ++ all_of (numbered_from w i (n - i)) ≡ whole → fields_of new ++ all_of (numbered_from w (i + 1) (n - (i + 1))) ≡ whole
pushed_next fs new f w n i whole lt is to before =
    pushed fs new f (numbered w i) (all_of (numbered_from w (i + 1) (n - (i + 1)))) whole is to
    (ap (λ ts. fields_of fs ++ all_of ts) (sym (numbered_next w i n lt)) ∙ before)

pub numbered_done : (fs : List code_field.Field) (w : What) (n i : ℕ) (whole : List Field) → n - i ≡ 0
    → fields_of fs ++ all_of (numbered_from w i (n - i)) ≡ whole → fields_of fs ≡ whole
numbered_done fs w n i whole e before = sym (append_nil (fields_of fs)) ∙ ap (λ ts. fields_of fs ++ all_of ts) (sym (numbered_none w i n e)) ∙ before

pub padded_done : (fs ms : List code_field.Field) (n i : ℕ) (whole : List Field) → n - i ≡ 0
    → fields_of fs ++ padded (n - i) (drop i (fields_of ms)) ≡ whole → fields_of fs ≡ whole
padded_done fs ms n i whole e before = sym (append_nil (fields_of fs)) ∙ sym (ap (λ k. fields_of fs ++ padded k (drop i (fields_of ms))) e) ∙ before

pub values_long : (things : List Thing) (fs : List code_field.Field) → length (map (value_in things) (fields_of fs)) ≡ length fs
values_long things [] = refl
values_long things (f ∷ fs) = ap suc (values_long things fs)

pub value_at : (things : List Thing) (fs : List code_field.Field) (i : ℕ) (d : code_field.Field) → get_or (map (value_in things) (fields_of fs)) i (value_in things (field_of d)) ≡ value_in things (field_of (get_or fs i d))
value_at things [] i d = refl
value_at things (f ∷ fs) zero d = refl
value_at things (f ∷ fs) (suc i) d = value_at things fs i d
