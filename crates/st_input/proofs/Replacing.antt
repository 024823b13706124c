-- Bytes of an object that become those of another one.
use Rattle.std.proofs.Common.{◌≡◌, ℕ, zero, suc, ◌+◌, ◌-◌, ◌<◌, ◌≤◌, List, [], ◌∷◌, length, take, drop, Option, Some, None, true, false, refl, sym, ap, ◌∙◌, arith, subst, length-drop, is_some, ◌⊎◌, inl, inr}
use Rattle.std.specs.Prelude.{if◌then◌else◌, slice_set, unwrap_or, min, nat_le}
use Rattle.std.proofs.lemmas.Bool.Decides.{nat_tests}
use Rattle.st_model.specs.declared.kind.Kind.{Kind}
use Rattle.st_model.specs.declared.kind.Kind.TheVariants as kind
use Rattle.st_model.specs.Values.{Value, Small, Ref}
use Rattle.st_model.specs.Objects.{Object, is_bytes, has_bytes, first_unit, size_of, with_units}
use Rattle.st_model.specs.Table.{Table, entry, changed}
use Rattle.st_model.specs.View.{View, IsWhole, is_live, object_of, nothing}
use Rattle.st_model.specs.Deeds.{changed_object, changed_by, byte_stored, bytes_stored, bytes_replaced, bytes_of_object, bytes_from}
use Rattle.st_memory.specs.inside.Copied.{HasBytes, laid, with_units_in, with_bytes_of}
use Rattle.st_memory.proofs.Bodies.{no_fields}
use Rattle.st_input.proofs.Done.{gone_stays, left_stays}
use Rattle.st_model.proofs.KindTests.{text_fields, text_pointers}
use Rattle.st_model.proofs.SettledIs.{bool_cases}
use Rattle.st_memory.proofs.Stretches.{nothing_laid}
use Rattle.st_input.proofs.Headers.{if_same}

-- lists

laid_set : (to : ℕ) (b : ℕ) (bs us : List ℕ) → laid (suc to) bs (slice_set us to b) ≡ laid to (b ∷ bs) us
laid_set zero b bs [] = refl
laid_set zero b bs (u ∷ us) = refl
laid_set (suc to) b bs [] = refl
laid_set (suc to) b bs (u ∷ us) = ap (λ q. u ∷ q) (laid_set to b bs us)

-- no more than there are
take_all : (n m : ℕ) (vs : List ℕ) → length vs ≤ m → m ≤ n → take n vs ≡ take m vs
take_all zero zero [] l k = refl
take_all zero (suc m) [] l k = refl
take_all (suc n) zero [] l k = refl
take_all (suc n) (suc m) [] l k = refl
take_all n zero (v ∷ vs) l k = absurd (omega (arith, l))
take_all zero (suc m) (v ∷ vs) l k = absurd (omega (arith, k))
take_all (suc n) (suc m) (v ∷ vs) l k = ap (λ q. v ∷ q) (take_all n m vs (omega (arith, l)) (omega (arith, k)))

-- nor than there is room for
none_fit : (ws : List ℕ) → laid 0 ws [] ≡ []
none_fit [] = refl
none_fit (w ∷ ws) = refl

laid_all : (to n m : ℕ) (vs us : List ℕ) → length us ≤ to + m → m ≤ n → laid to (take n vs) us ≡ laid to (take m vs) us
laid_all (suc to) n m vs [] l k = refl
laid_all (suc to) n m vs (u ∷ us) l k = ap (λ q. u ∷ q) (laid_all to n m vs us (omega (arith, l)) k)
laid_all zero n m vs [] l k = none_fit (take n vs) ∙ sym (none_fit (take m vs))
laid_all zero zero zero [] (u ∷ us) l k = refl
laid_all zero zero (suc m) [] (u ∷ us) l k = refl
laid_all zero (suc n) zero [] (u ∷ us) l k = refl
laid_all zero (suc n) (suc m) [] (u ∷ us) l k = refl
laid_all zero n zero (v ∷ vs) (u ∷ us) l k = absurd (omega (arith, l))
laid_all zero zero (suc m) (v ∷ vs) (u ∷ us) l k = absurd (omega (arith, k))
laid_all zero (suc n) (suc m) (v ∷ vs) (u ∷ us) l k = ap (λ q. v ∷ q) (laid_all zero n m vs us (omega (arith, l)) (omega (arith, k)))

-- so many as are asked for, are there, and have room
copied : (to from n m : ℕ) (vs us : List ℕ) → m ≡ min (min n (length us - to)) (length vs - from) → laid to (take n (drop from vs)) us ≡ laid to (take m (drop from vs)) us
copied to from n m vs us e = elim (least) [
  | inl a ↦ ap (λ k. laid to (take k (drop from vs)) us) a
  | inr (inl a) ↦ laid_all to n m (drop from vs) us a.0 a.1
  | inr (inr a) ↦ ap (λ ws. laid to ws us) (take_all n m (drop from vs) (subst (λ k. k ≤ m) (sym (length-drop from vs)) a.0) a.1)
]
  where
    least : (n ≡ m) ⊎ (((length us ≤ to + m) × (m ≤ n)) ⊎ ((length vs - from ≤ m) × (m ≤ n)))
    least = grind (arith, e)

-- in an object

bytes_laid : (o : Object) → is_bytes o.kind ≡ true → first_unit o ≡ 0 → (i : ℕ) (bs : List ℕ) → bytes_stored i bs o ≡ with_units o (laid i bs o.units)
bytes_laid o k f i [] = ap (with_units o) (sym (nothing_laid i o.units))
bytes_laid o k f i (b ∷ bs) =
    let e : byte_stored i b o ≡ with_units o (slice_set o.units i b) = stored in
    ap (bytes_stored (suc i) bs) e ∙ bytes_laid (with_units o (slice_set o.units i b)) k f (suc i) bs ∙ ap (with_units o) (laid_set i b bs o.units)
  where
    bytes_has : (k : Kind) → is_bytes k ≡ true → has_bytes k ≡ true
    bytes_has kind.Pointers e = cc
    bytes_has kind.Words e = cc
    bytes_has kind.Bytes e = refl
    bytes_has kind.Method e = cc

    stored : byte_stored i b o ≡ with_units o (slice_set o.units i b)
    stored =
        let r : nat_le (first_unit o) i ≡ true = grind (arith, nat_tests, f) in
        let z : i - first_unit o ≡ i = omega (arith, f) in
        rw (bytes_has o.kind k, r, z) refl

becomes_at : (f : Object → Object) (t : Table) (n : ℕ) (e : Option Object) → is_some e ≡ true → changed_object f t n e ≡ changed t n (f (unwrap_or e nothing))
becomes_at f t n None e = cc
becomes_at f t n (Some o) e = refl

units_become : (f : Object → Object) (t : Table) (v : Value) (us : List ℕ) → is_live t v ≡ true → f (object_of t v) ≡ with_units (object_of t v) us → with_units_in t v us ≡ changed_by f t v
unfolding is_live object_of with_units_in
units_become f t (Small n) us e k = cc
units_become f t (Ref n) us e k = sym (becomes_at f t n (entry t n) e ∙ ap (changed t n) k)

taken_at : (i n : ℕ) (e : Option Object) → is_some e ≡ true → is_bytes (unwrap_or e nothing).kind ≡ true → first_unit (unwrap_or e nothing) ≡ 0 → bytes_of_object i n e ≡ take n (drop i (unwrap_or e nothing).units)
taken_at i n None live k f = cc
taken_at i n (Some o) live k f = let z : i - first_unit o ≡ i = omega (arith, f) in rw (k, z) refl

taken : (t : Table) (s : Value) (i n : ℕ) → is_live t s ≡ true → is_bytes (object_of t s).kind ≡ true → first_unit (object_of t s) ≡ 0 → bytes_from t s i n ≡ take n (drop i (object_of t s).units)
unfolding is_live object_of
taken t (Small k) i n live kind f = cc
taken t (Ref k) i n live kind f = taken_at i n (entry t k) live kind f

none_at : (i n : ℕ) (e : Option Object) → (is_some e ≡ true → is_bytes (unwrap_or e nothing).kind ≡ false) → bytes_of_object i n e ≡ []
none_at i n None h = refl
none_at i n (Some o) h = rw (h refl) refl

none_from : (t : Table) (s : Value) (i n : ℕ) → (is_live t s ≡ true → is_bytes (object_of t s).kind ≡ false) → bytes_from t s i n ≡ []
unfolding is_live object_of
none_from t (Small k) i n h = refl
none_from t (Ref k) i n h = none_at i n (entry t k) h

stays_if : (i : ℕ) (bs : List ℕ) (o : Object) → is_bytes o.kind ≡ false → bytes_replaced i bs o ≡ o
stays_if i bs o k = rw k refl

-- of what isn't of kind Bytes nothing becomes of another
pub no_target : (t : Table) (v : Value) (i : ℕ) (bs : List ℕ) → (is_live t v ≡ true → is_bytes (object_of t v).kind ≡ false) → t ≡ changed_by (bytes_replaced i bs) t v
no_target t v i bs h = elim (bool_cases (is_live t v)) [
  | inl live ↦ left_stays (bytes_replaced i bs) t v (stays_if i bs (object_of t v) (h live))
  | inr gone ↦ gone_stays (bytes_replaced i bs) t v gone
]

pub no_source : (t : Table) (v s : Value) (to from n : ℕ) → (is_live t s ≡ true → is_bytes (object_of t s).kind ≡ false) → t ≡ changed_by (bytes_replaced to (bytes_from t s from n)) t v
no_source t v s to from n h =
    left_stays (bytes_replaced to []) t v (if_same (is_bytes (object_of t v).kind) (object_of t v)) ∙ ap (λ bs. changed_by (bytes_replaced to bs) t v) (sym (none_from t s from n h))

module _ {w : View} (whole : IsWhole w) (v s : Value) (to from n m : ℕ) (live_v : is_live w.objects v ≡ true) (live_s : is_live w.objects s ≡ true) (kind_v : is_bytes (object_of w.objects v).kind ≡ true) (kind_s : is_bytes (object_of w.objects s).kind ≡ true)
    (least : m ≡ min (min n (size_of (object_of w.objects v) - to)) (size_of (object_of w.objects s) - from)) where
  first_of : (x : Value) → is_live w.objects x ≡ true → is_bytes (object_of w.objects x).kind ≡ true → first_unit (object_of w.objects x) ≡ 0
  first_of x live k = let f = no_fields x whole live (text_fields (object_of w.objects x).kind k) in omega (arith, f)

  size_is : (x : Value) → is_live w.objects x ≡ true → is_bytes (object_of w.objects x).kind ≡ true → size_of (object_of w.objects x) ≡ length (object_of w.objects x).units
  size_is x live k = rw (text_pointers (object_of w.objects x).kind k) (let f = first_of x live k in omega (arith, f))

  pub has_source : 0 < m → HasBytes w.objects s from m
  has_source l = record { live = live_s; kind = kind_s; bytes = let e = size_is s live_s kind_s in grind (arith, least, e, l) }

  pub has_target : 0 < m → HasBytes w.objects v to m
  has_target l = record { live = live_v; kind = kind_v; bytes = let e = size_is v live_v kind_v in grind (arith, least, e, l) }

  clipped : m ≡ min (min n (length (object_of w.objects v).units - to)) (length (object_of w.objects s).units - from)
  clipped = least ∙ (λ i. min (min n (size_is v live_v kind_v i - to)) (size_is s live_s kind_s i - from))

  all_laid : bytes_replaced to (bytes_from w.objects s from n) (object_of w.objects v) ≡ with_units (object_of w.objects v) (laid to (take m (drop from (object_of w.objects s).units)) (object_of w.objects v).units)
  all_laid =
      let o = object_of w.objects v in
      let vs = (object_of w.objects s).units in
      ap (λ bs. bytes_replaced to bs o) (taken w.objects s from n live_s kind_s (first_of s live_s kind_s))
      ∙ ap (λ b. if b then bytes_stored to (take n (drop from vs)) o else o) kind_v
      ∙ bytes_laid o kind_v (first_of v live_v kind_v) to (take n (drop from vs))
      ∙ ap (with_units o) (copied to from n m vs o.units clipped)

  pub replaced : with_bytes_of w.objects s from v to m ≡ changed_by (bytes_replaced to (bytes_from w.objects s from n)) w.objects v
  replaced = units_become (bytes_replaced to (bytes_from w.objects s from n)) w.objects v (laid to (take m (drop from (object_of w.objects s).units)) (object_of w.objects v).units) live_v all_laid

  pub none_replaced : m ≤ 0 → w.objects ≡ changed_by (bytes_replaced to (bytes_from w.objects s from n)) w.objects v
  none_replaced l =
      let o = object_of w.objects v in
      let z : m ≡ 0 = omega (arith, l) in
      left_stays (bytes_replaced to (bytes_from w.objects s from n)) w.objects v
      (all_laid ∙ ap (λ k. with_units o (laid to (take k (drop from (object_of w.objects s).units)) o.units)) z ∙ ap (with_units o) (nothing_laid to o.units))
