-- What bytes stand in an object while others are copied there piece by piece.
use Rattle.std.proofs.Common.{◌≡◌, ◌≢◌, ℕ, zero, suc, ◌+◌, ◌-◌, ◌*◌, ◌<◌, ◌≤◌, true, false, List, [], ◌∷◌, ◌++◌, length, take, drop, refl, sym, ap, ◌∙◌, subst, arith, is_some, inl, inr}
use Rattle.std.specs.Prelude.{slice_get, slice_set, unwrap_or, Some, None, if◌then◌else◌}
use Rattle.std.proofs.Math.Seq.{take-add}
use Rattle.st_model.specs.Values.{Value, Small, Ref}
use Rattle.st_model.specs.Objects.{Object, is_bytes, is_words, with_units, object_with_unit, first_unit, size_of}
use Rattle.st_model.specs.Table.{Table, entry, changed}
use Rattle.st_model.specs.View.{View, IsWhole, is_live, object_of, with_unit, nothing}
use Rattle.st_model.proofs.TableLemmas.{changed-other}
use Rattle.st_model.proofs.Transfers.{same_or_not}
use Rattle.st_memory.specs.inside.Copied.{HasBytes, laid, units_from, with_units_in, with_run, with_bytes_of}
use Rattle.st_memory.proofs.Bodies.{no_fields}
use Rattle.st_model.proofs.Entries.{changed-again}
use Rattle.st_model.proofs.KindTests.{text_fields, text_pointers, text_words}

-- lists

pub set_first : (to : ℕ) (ws us : List ℕ) (x : ℕ) → to + length ws < length us → slice_set (laid to ws us) (to + length ws) x ≡ laid to (ws ++ (x ∷ [])) us
set_first zero [] [] x l = absurd (omega (arith, l))
set_first zero [] (u ∷ us) x l = refl
set_first zero (w ∷ ws) [] x l = absurd (omega (arith, l))
set_first zero (w ∷ ws) (u ∷ us) x l =
    let e : 0 + suc (length ws) ≡ suc (0 + length ws) = omega arith in
    ap (λ i. slice_set (w ∷ laid 0 ws us) i x) e ∙ ap (λ q. w ∷ q) (set_first zero ws us x (omega (arith, l)))
set_first (suc to) ws [] x l = absurd (omega (arith, l))
set_first (suc to) ws (u ∷ us) x l =
    let e : suc to + length ws ≡ suc (to + length ws) = omega arith in
    ap (λ i. slice_set (u ∷ laid to ws us) i x) e ∙ ap (λ q. u ∷ q) (set_first to ws us x (omega (arith, l)))

pub drop_laid : (to i : ℕ) (ws us : List ℕ) → to + length ws ≤ i → drop i (laid to ws us) ≡ drop i us
drop_laid zero i [] us l = refl
drop_laid zero i (w ∷ ws) [] l = refl
drop_laid zero zero (w ∷ ws) (u ∷ us) l = absurd (omega (arith, l))
drop_laid zero (suc i) (w ∷ ws) (u ∷ us) l = drop_laid zero i ws us (omega (arith, l))
drop_laid (suc to) i ws [] l = refl
drop_laid (suc to) zero ws (u ∷ us) l = absurd (omega (arith, l))
drop_laid (suc to) (suc i) ws (u ∷ us) l = drop_laid to i ws us (omega (arith, l))

take_laid : (to i m : ℕ) (ws us : List ℕ) → i + m ≤ to → take m (drop i (laid to ws us)) ≡ take m (drop i us)
take_laid to zero zero ws us l = refl
take_laid zero zero (suc m) ws us l = absurd (omega (arith, l))
take_laid (suc to) zero (suc m) ws [] l = refl
take_laid (suc to) zero (suc m) ws (u ∷ us) l = ap (λ q. u ∷ q) (take_laid to zero m ws us (omega (arith, l)))
take_laid zero (suc i) m ws us l = absurd (omega (arith, l))
take_laid (suc to) (suc i) m ws [] l = refl
take_laid (suc to) (suc i) m ws (u ∷ us) l = take_laid to i m ws us (omega (arith, l))

-- two stretches that follow each other, the second one behind the first
laid_behind : (to : ℕ) (ws xs us : List ℕ) → laid (to + length ws) xs (laid to ws us) ≡ laid to (ws ++ xs) us
laid_behind zero [] xs us = refl
laid_behind zero (w ∷ ws) xs [] = ap (λ k. laid k xs []) len ∙ refl
  where
    len : 0 + suc (length ws) ≡ suc (length ws)
    len = omega arith
laid_behind zero (w ∷ ws) xs (u ∷ us) =
    let e : 0 + suc (length ws) ≡ suc (0 + length ws) = omega arith in
    ap (λ k. laid k xs (w ∷ laid 0 ws us)) e ∙ ap (λ q. w ∷ q) (laid_behind zero ws xs us)
laid_behind (suc to) ws xs [] =
    let e : suc to + length ws ≡ suc (to + length ws) = omega arith in
    ap (λ k. laid k xs []) e
laid_behind (suc to) ws xs (u ∷ us) =
    let e : suc to + length ws ≡ suc (to + length ws) = omega arith in
    ap (λ k. laid k xs (u ∷ laid to ws us)) e ∙ ap (λ q. u ∷ q) (laid_behind to ws xs us)

-- and the first one before the second
laid_before : (to : ℕ) (ws xs us : List ℕ) → laid to ws (laid (to + length ws) xs us) ≡ laid to (ws ++ xs) us
laid_before zero [] xs us = nothing_before (laid (0 + 0) xs us)
  where
    nothing_before : (ys : List ℕ) → laid 0 [] ys ≡ ys
    nothing_before ys = refl
laid_before zero (w ∷ ws) xs [] =
    let e : 0 + suc (length ws) ≡ suc (length ws) = omega arith in
    ap (λ k. laid 0 (w ∷ ws) (laid k xs [])) e
laid_before zero (w ∷ ws) xs (u ∷ us) =
    let e : 0 + suc (length ws) ≡ suc (0 + length ws) = omega arith in
    ap (λ k. laid 0 (w ∷ ws) (laid k xs (u ∷ us))) e ∙ ap (λ q. w ∷ q) (laid_before zero ws xs us)
laid_before (suc to) ws xs [] =
    let e : suc to + length ws ≡ suc (to + length ws) = omega arith in
    ap (λ k. laid (suc to) ws (laid k xs [])) e
laid_before (suc to) ws xs (u ∷ us) =
    let e : suc to + length ws ≡ suc (to + length ws) = omega arith in
    ap (λ k. laid (suc to) ws (laid k xs (u ∷ us))) e ∙ ap (λ q. u ∷ q) (laid_before to ws xs us)

pub length-laid : (to : ℕ) (ws us : List ℕ) → length (laid to ws us) ≡ length us
length-laid zero [] us = refl
length-laid zero (w ∷ ws) [] = refl
length-laid zero (w ∷ ws) (u ∷ us) = let q = length-laid zero ws us in omega (arith, q)
length-laid (suc to) ws [] = refl
length-laid (suc to) ws (u ∷ us) = let q = length-laid to ws us in omega (arith, q)

pub taken_more : (vs : List ℕ) (from k x : ℕ) → slice_get vs (from + k) ≡ Some x → take (suc k) (drop from vs) ≡ take k (drop from vs) ++ (x ∷ [])
taken_more [] from k x e = none from k e
  where
    none : (from k : ℕ) → slice_get {X = ℕ} [] (from + k) ≡ Some x → take (suc k) (drop from []) ≡ take k (drop from []) ++ (x ∷ [])
    none from k e = cc
taken_more (v ∷ vs) zero zero x e = let q : v ≡ x = cc in ap (λ y. y ∷ []) q
taken_more (v ∷ vs) zero (suc k) x e =
    let f : 0 + suc k ≡ suc (0 + k) = omega arith in
    ap (λ q. v ∷ q) (taken_more vs zero k x (sym (ap (slice_get (v ∷ vs)) f) ∙ e))
taken_more (v ∷ vs) (suc from) k x e =
    let f : suc from + k ≡ suc (from + k) = omega arith in
    taken_more vs from k x (sym (ap (slice_get (v ∷ vs)) f) ∙ e)

drop_none : (k : ℕ) → drop {A = ℕ} k [] ≡ []
drop_none zero = refl
drop_none (suc k) = refl

drop_more : (from k : ℕ) (vs : List ℕ) → drop k (drop from vs) ≡ drop (from + k) vs
drop_more zero k vs = ap (λ j. drop j vs) (omega arith)
drop_more (suc from) k [] = drop_none k ∙ sym (drop_none (suc from + k))
drop_more (suc from) k (v ∷ vs) =
    let e : suc from + k ≡ suc (from + k) = omega arith in
    drop_more from k vs ∙ sym (ap (λ j. drop j (v ∷ vs)) e)

taken_both : (vs : List ℕ) (from k m : ℕ) → take k (drop from vs) ++ take m (drop (from + k) vs) ≡ take (k + m) (drop from vs)
taken_both vs from k m = ap (λ q. take k (drop from vs) ++ take m q) (sym (drop_more from k vs)) ∙ sym (take-add k m (drop from vs))

pub length-taken : (vs : List ℕ) (from k : ℕ) → from + k ≤ length vs → length (take k (drop from vs)) ≡ k
length-taken vs from zero l = refl
length-taken [] from (suc k) l = absurd (omega (arith, l))
length-taken (v ∷ vs) zero (suc k) l = let q = length-taken vs zero k (omega (arith, l)) in omega (arith, q)
length-taken (v ∷ vs) (suc from) (suc k) l = length-taken vs from (suc k) (omega (arith, l))

-- tables

changed_none : (t : Table) (n : ℕ) → is_some (entry t n) ≡ true → changed t n (unwrap_or (entry t n) nothing) ≡ t
changed_none [] n e = cc
changed_none (None ∷ t) zero e = cc
changed_none (Some o ∷ t) zero e = refl
changed_none (None ∷ t) (suc n) e = ap (λ u. None ∷ u) (changed_none t n e)
changed_none (Some o ∷ t) (suc n) e = ap (λ u. Some o ∷ u) (changed_none t n e)

entry_changed : (t : Table) (n : ℕ) (o : Object) → is_some (entry t n) ≡ true → entry (changed t n o) n ≡ Some o
entry_changed [] n o e = cc
entry_changed (None ∷ t) zero o e = cc
entry_changed (Some a ∷ t) zero o e = refl
entry_changed (None ∷ t) (suc n) o e = entry_changed t n o e
entry_changed (Some a ∷ t) (suc n) o e = entry_changed t n o e

some_changed : (t : Table) (n k : ℕ) (o : Object) → is_some (entry (changed t n o) k) ≡ is_some (entry t k)
some_changed [] n k o = refl
some_changed (None ∷ t) zero k o = refl
some_changed (Some a ∷ t) zero zero o = refl
some_changed (Some a ∷ t) zero (suc k) o = refl
some_changed (None ∷ t) (suc n) zero o = refl
some_changed (Some a ∷ t) (suc n) zero o = refl
some_changed (None ∷ t) (suc n) (suc k) o = some_changed t n k o
some_changed (Some a ∷ t) (suc n) (suc k) o = some_changed t n k o

module _ (t : Table) (v : Value) (us : List ℕ) where
  pub live_in : (s : Value) → is_live (with_units_in t v us) s ≡ is_live t s
  unfolding with_units_in is_live
  live_in s = by_value v s
    where
      by_value : (v s : Value) → is_live (with_units_in t v us) s ≡ is_live t s
      by_value (Small n) s = refl
      by_value (Ref n) (Small k) = refl
      by_value (Ref n) (Ref k) = some_changed t n k (with_units (object_of t (Ref n)) us)

  pub object_here : is_live t v ≡ true → object_of (with_units_in t v us) v ≡ with_units (object_of t v) us
  unfolding with_units_in is_live object_of
  object_here e = by_value v e
    where
      by_value : (v : Value) → is_live t v ≡ true → object_of (with_units_in t v us) v ≡ with_units (object_of t v) us
      by_value (Small n) e = cc
      by_value (Ref n) e = ap (λ x. unwrap_or x nothing) (entry_changed t n (with_units (object_of t (Ref n)) us) e)

  pub object_other : (s : Value) → s ≢ v → object_of (with_units_in t v us) s ≡ object_of t s
  unfolding with_units_in object_of
  object_other s d = by_value v s d
    where
      by_value : (v s : Value) → s ≢ v → object_of (with_units_in t v us) s ≡ object_of t s
      by_value (Small n) s d = refl
      by_value (Ref n) (Small k) d = refl
      by_value (Ref n) (Ref k) d = ap (λ x. unwrap_or x nothing) (changed-other t n k (with_units (object_of t (Ref n)) us) (λ q. d (ap Ref q)))

  pub unit_again : (i x : ℕ) → is_live t v ≡ true → with_unit (with_units_in t v us) v i x ≡ with_units_in t v (slice_set us i x)
  unfolding with_units_in with_unit is_live object_of
  unit_again i x e = by_value v e
    where
      by_value : (v : Value) → is_live t v ≡ true → with_unit (with_units_in t v us) v i x ≡ with_units_in t v (slice_set us i x)
      by_value (Small n) e = cc
      by_value (Ref n) e =
          let o = unwrap_or (entry t n) nothing in
          ap (λ y. changed (changed t n (with_units o us)) n (object_with_unit (unwrap_or y nothing) i x)) (entry_changed t n (with_units o us) e)
          ∙ changed-again t n (with_units o us) (with_units o (slice_set us i x))

  pub units_again : (vs : List ℕ) → is_live t v ≡ true → with_units_in (with_units_in t v us) v vs ≡ with_units_in t v vs
  unfolding with_units_in is_live object_of
  units_again vs e = by_value v e
    where
      by_value : (v : Value) → is_live t v ≡ true → with_units_in (with_units_in t v us) v vs ≡ with_units_in t v vs
      by_value (Small n) e = cc
      by_value (Ref n) e =
          let o = unwrap_or (entry t n) nothing in
          ap (λ y. changed (changed t n (with_units o us)) n (with_units (unwrap_or y nothing) vs)) (entry_changed t n (with_units o us) e)
          ∙ changed-again t n (with_units o us) (with_units o vs)

pub units_none : (t : Table) (v : Value) → is_live t v ≡ true → with_units_in t v (object_of t v).units ≡ t
unfolding with_units_in is_live object_of
units_none t (Small n) e = cc
units_none t (Ref n) e = changed_none t n e

-- where the bytes of an object stand

module _ {v : View} {x : Value} {i n : ℕ} (whole : IsWhole v) (has : HasBytes v.objects x i n) where
  pub no_words : is_words (object_of v.objects x).kind ≡ false
  no_words = text_words (object_of v.objects x).kind has.kind

  pub first_is_none : first_unit (object_of v.objects x) ≡ 0
  first_is_none = let f = no_fields x whole has.live (text_fields (object_of v.objects x).kind has.kind) in omega (arith, f)

  pub above_first : first_unit (object_of v.objects x) ≤ i
  above_first = let f = first_is_none in omega (arith, f)

  pub below_size : i + n ≤ size_of (object_of v.objects x)
  below_size =
      let o = object_of v.objects x in
      let b = has.bytes in
      subst (λ p. i + n ≤ (if p then length o.fields else 2 * length o.fields + length o.units)) (sym (text_pointers o.kind has.kind)) (omega (arith, b))

module _ (t u : Table) (s v : Value) (from to n : ℕ) (us : List ℕ) (source : HasBytes t s from n) (target : HasBytes t v to n) (same : length us ≡ length (object_of t v).units) (is : u ≡ with_units_in t v us) where
  live_of : (x : Value) → is_live t x ≡ true → is_live u x ≡ true
  live_of x e = ap (λ w. is_live w x) is ∙ live_in t v us x ∙ e

  kind_of : (x : Value) → (object_of u x).kind ≡ (object_of t x).kind
  kind_of x = elim (same_or_not x v) [
    | inl e ↦ ap (λ w. (object_of w x).kind) is ∙ ap (λ y. (object_of (with_units_in t v us) y).kind) e ∙ ap (λ (o : Object). o.kind) (object_here t v us target.live) ∙ ap (λ y. (object_of t y).kind) (sym e)
    | inr d ↦ ap (λ w. (object_of w x).kind) is ∙ ap (λ (o : Object). o.kind) (object_other t v us x d)
  ]

  count_of : (x : Value) → length (object_of u x).units ≡ length (object_of t x).units
  count_of x = elim (same_or_not x v) [
    | inl e ↦
        ap (λ w. length (object_of w x).units) is ∙ ap (λ y. length (object_of (with_units_in t v us) y).units) e ∙ ap (λ (o : Object). length o.units) (object_here t v us target.live)
        ∙ same ∙ ap (λ y. length (object_of t y).units) (sym e)
    | inr d ↦ ap (λ w. length (object_of w x).units) is ∙ ap (λ (o : Object). length o.units) (object_other t v us x d)
  ]

  has_of : (x : Value) (at k m : ℕ) → HasBytes t x at n → k + m ≤ n → HasBytes u x (at + k) m
  has_of x at k m has l = record {
    live = live_of x has.live;
    kind = ap is_bytes (kind_of x) ∙ has.kind;
    bytes = let c = count_of x in let b = has.bytes in omega (arith, c, b, l);
  }

  has_source : (k m : ℕ) → k + m ≤ n → HasBytes u s (from + k) m
  has_source k m l = has_of s from k m source l

  has_target : (k m : ℕ) → k + m ≤ n → HasBytes u v (to + k) m
  has_target k m l = has_of v to k m target l

-- the bytes of one object that are copied, where they are copied to
abbrev bytes_with : Table → Value → ℕ → Value → ℕ → ℕ → List ℕ
bytes_with t s from v to k = laid to (units_from t s from k) (object_of t v).units

length-with : (t : Table) (s : Value) (from : ℕ) (v : Value) (to k : ℕ) → length (bytes_with t s from v to k) ≡ length (object_of t v).units
length-with t s from v to k = length-laid to (units_from t s from k) (object_of t v).units

-- while bytes are copied, each piece of both objects has its bytes
pub both_have : (t u : Table) (s v : Value) (from to n a b k : ℕ) → HasBytes t s from n → HasBytes t v to n → u ≡ with_bytes_of t s a v b k
    → (i m : ℕ) → i + m ≤ n → HasBytes u s (from + i) m × HasBytes u v (to + i) m
both_have t u s v from to n a b k source target is i m l =
    let same = length-with t s a v b k in
    (has_source t u s v from to n (bytes_with t s a v b k) source target same is i m l, has_target t u s v from to n (bytes_with t s a v b k) source target same is i m l)

pub none_laid : (t : Table) (s : Value) (from : ℕ) (v : Value) (to : ℕ) → is_live t v ≡ true → t ≡ with_bytes_of t s from v to 0
none_laid t s from v to live = sym (ap (with_units_in t v) (nothing_laid to (object_of t v).units) ∙ units_none t v live)
  where
    nothing_laid : (to : ℕ) (us : List ℕ) → laid to [] us ≡ us
    nothing_laid zero us = refl
    nothing_laid (suc to) [] = refl
    nothing_laid (suc to) (u ∷ us) = ap (λ q. u ∷ q) (nothing_laid to us)

module _ (t u w : Table) (s v : Value) (from to n k m : ℕ) (source : HasBytes t s from n) (target : HasBytes t v to n) (low : k + m ≤ n) where
  -- what is read of a table in which other bytes were copied
  read_is : (us : List ℕ) (at : ℕ) → u ≡ with_units_in t v us → (s ≡ v → take m (drop at us) ≡ take m (drop at (object_of t v).units)) → units_from u s at m ≡ units_from t s at m
  read_is us at is old =
      ap (λ y. units_from y s at m) is ∙ elim (same_or_not s v) [
        | inl q ↦
            ap (λ y. units_from (with_units_in t v us) y at m) q
            ∙ ap (λ (o : Object). take m (drop at o.units)) (object_here t v us target.live)
            ∙ old q ∙ ap (λ y. units_from t y at m) (sym q)
        | inr d ↦ ap (λ (o : Object). take m (drop at o.units)) (object_other t v us s d)
      ]

  stored_is : (us ws : List ℕ) (at : ℕ) → u ≡ with_units_in t v us → w ≡ with_run u v at ws → w ≡ with_units_in t v (laid at ws us)
  stored_is us ws at is stored =
      stored ∙ ap (λ y. with_run y v at ws) is
      ∙ ap (λ (o : Object). with_units_in (with_units_in t v us) v (laid at ws o.units)) (object_here t v us target.live)
      ∙ units_again t v us (laid at ws us) target.live

  -- the lowest first
  pub first_more : (s ≡ v → to ≤ from) → u ≡ with_bytes_of t s from v to k → w ≡ with_bytes_of u s (from + k) v (to + k) m → w ≡ with_bytes_of t s from v to (k + m)
  first_more down is stored =
      let vs = (object_of t s).units in
      let us = (object_of t v).units in
      let c = source.bytes in
      let xs = units_from t s from k in
      let long = length-taken vs from k (omega (arith, c, low)) in
      let read = read_is (laid to xs us) (from + k) is (λ q. ap (take m) (drop_laid to (from + k) xs us (let l = down q in omega (arith, l, long)))) in
      let at : to + k ≡ to + length xs = omega (arith, long) in
      stored_is (laid to xs us) (units_from u s (from + k) m) (to + k) is stored
      ∙ ap (λ ws. with_units_in t v (laid (to + k) ws (laid to xs us))) read
      ∙ ap (λ j. with_units_in t v (laid j (units_from t s (from + k) m) (laid to xs us))) at
      ∙ ap (with_units_in t v) (laid_behind to xs (units_from t s (from + k) m) us ∙ ap (λ ws. laid to ws us) (taken_both vs from k m))

  -- the highest first
  pub last_more : (s ≡ v → from ≤ to) → u ≡ with_bytes_of t s (from + (k + m)) v (to + (k + m)) (n - (k + m)) → w ≡ with_bytes_of u s (from + k) v (to + k) m → w ≡ with_bytes_of t s (from + k) v (to + k) (n - k)
  last_more up is stored =
      let vs = (object_of t s).units in
      let us = (object_of t v).units in
      let c = source.bytes in
      let xs = units_from t s (from + k) m in
      let ys = units_from t s (from + (k + m)) (n - (k + m)) in
      let long = length-taken vs (from + k) m (omega (arith, c, low)) in
      let read = read_is (laid (to + (k + m)) ys us) (from + k) is (λ q. take_laid (to + (k + m)) (from + k) m ys us (let l = up q in omega (arith, l))) in
      let at : to + (k + m) ≡ to + k + length xs = omega (arith, long) in
      let behind : from + (k + m) ≡ from + k + m = omega arith in
      let rest : m + (n - (k + m)) ≡ n - k = omega (arith, low) in
      stored_is (laid (to + (k + m)) ys us) (units_from u s (from + k) m) (to + k) is stored
      ∙ ap (λ ws. with_units_in t v (laid (to + k) ws (laid (to + (k + m)) ys us))) read
      ∙ ap (λ j. with_units_in t v (laid (to + k) xs (laid j ys us))) at
      ∙ ap (with_units_in t v)
      (laid_before (to + k) xs ys us
      ∙ ap (λ j. laid (to + k) (xs ++ take (n - (k + m)) (drop j vs)) us) behind
      ∙ ap (λ ws. laid (to + k) ws us) (taken_both vs (from + k) m (n - (k + m)))
      ∙ ap (λ j. laid (to + k) (take j (drop (from + k) vs)) us) rest)
