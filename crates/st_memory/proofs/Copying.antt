-- What stands in the fields while they are copied one after the other.
use Rattle.std.proofs.Common.{◌≡◌, ◌≢◌, ℕ, suc, ◌+◌, ◌-◌, ◌<◌, ◌≤◌, List, length, true, Some, refl, sym, ◌∙◌, ap, arith, ◌⊎◌, inl, inr}
use Rattle.std.proofs.lemmas.Bool.{false≢true}
use Rattle.std.proofs.lemmas.Option.{get_or_from_slice_get}
use Rattle.std.specs.Prelude.{slice_get}
use Rattle.st_model.specs.Values.{Value}
use Rattle.st_model.specs.Objects.{nil, is_pointers}
use Rattle.st_model.specs.Formed.{IsHeader}
use Rattle.st_model.specs.Table.{Table}
use Rattle.st_model.specs.View.{Has, is_live, object_of, with_stored, with_fields, field_of, fields_from}
use Rattle.st_model.proofs.KindTests.{no_method}
use Rattle.st_model.proofs.Transfers.{same_or_not, live_with_fields, count_with_fields, kind_with_fields, field_with_fields-other, field_with_fields-beside, fields_from-length, fields_from-more, with_fields-more, stored-below}

module _ (t u : Table) (v : Value) (to n : ℕ) (xs : List Value) (i : ℕ) (has : Has t v to n) (is : u ≡ with_fields t v i xs) where
  pub live_after : (s : Value) → is_live t s ≡ true → is_live u s ≡ true
  live_after s live = rw is (live_with_fields t v i xs s ∙ live)

  pub count_after : (s : Value) → length (object_of u s).fields ≡ length (object_of t s).fields
  count_after s = rw is (count_with_fields t v i xs s has.live)

  pub kind_after : (s : Value) → (object_of u s).kind ≡ (object_of t s).kind
  kind_after s = rw is (kind_with_fields t v i xs s has.live)

  -- what has fields is no Method
  pub header_after : (j : ℕ) (x : Value) → IsHeader (object_of u v) j x
  header_after j x = λ e. absurd (false≢true (sym (no_method (object_of u v).kind (ap is_pointers (kind_after v) ∙ has.kind)) ∙ e))

  read_after : (s : Value) (j : ℕ) (x : Value) → slice_get (object_of u s).fields j ≡ Some x → field_of u s j ≡ x
  unfolding field_of
  read_after s j x e = get_or_from_slice_get (object_of u s).fields j x nil e

-- the lowest first
pub first_more : (t u w : Table) (s v : Value) (from to k n : ℕ) (x : Value) → Has t v to n → (s ≡ v → to ≤ from) → k < n
    → u ≡ with_fields t v to (fields_from t s from k) → slice_get (object_of u s).fields (from + k) ≡ Some x → w ≡ with_stored u v (to + k) x
    → w ≡ with_fields t v to (fields_from t s from (suc k))
first_more t u w s v from to k n x has down l is read stored =
    let old : field_of u s (from + k) ≡ field_of t s (from + k) = rw is (unread (same_or_not s v)) in
    let y : x ≡ field_of t s (from + k) = sym (read_after t u v to n (fields_from t s from k) to has is s (from + k) x read) ∙ old in
    let m : to + length (fields_from t s from k) ≡ to + k = ap (λ j. to + j) (fields_from-length t s from k) in
    stored ∙ (rw (is, y) (sym (ap (λ ys. with_fields t v to ys) (fields_from-more t s from k)
    ∙ with_fields-more t v to (fields_from t s from k) (field_of t s (from + k))
    ∙ ap (λ j. with_stored (with_fields t v to (fields_from t s from k)) v j (field_of t s (from + k))) m)))
  where
    unread : (s ≡ v) ⊎ (s ≢ v) → field_of (with_fields t v to (fields_from t s from k)) s (from + k) ≡ field_of t s (from + k)
    unread (inl e) = field_with_fields-beside t v to (fields_from t s from k) s (from + k) has.live
        (inr (rw (fields_from-length t s from k) (let d = down e in omega (arith, d))))
    unread (inr d) = field_with_fields-other t v to (fields_from t s from k) s (from + k) has.live d

next_is : (t : Table) (s v : Value) (from to k j : ℕ)
    → with_fields (with_stored t v (to + k) (field_of t s (from + k))) v (to + suc k) (fields_from t s (from + suc k) j) ≡ with_fields t v (to + k) (fields_from t s (from + k) (suc j))
unfolding with_fields fields_from
next_is t s v from to k j =
    let e : to + suc k ≡ suc (to + k) = omega arith in
    let f : from + suc k ≡ suc (from + k) = omega arith in
    rw (e, f) refl

-- the highest first
pub last_more : (t u w : Table) (s v : Value) (from to k n : ℕ) (x : Value) → Has t v to n → (s ≡ v → from ≤ to) → k < n
    → u ≡ with_fields t v (to + suc k) (fields_from t s (from + suc k) (n - suc k)) → slice_get (object_of u s).fields (from + k) ≡ Some x → w ≡ with_stored u v (to + k) x
    → w ≡ with_fields t v (to + k) (fields_from t s (from + k) (n - k))
last_more t u w s v from to k n x has up l is read stored =
    let old : field_of u s (from + k) ≡ field_of t s (from + k) = rw is (unread (same_or_not s v)) in
    let y : x ≡ field_of t s (from + k) = sym (read_after t u v to n (fields_from t s (from + suc k) (n - suc k)) (to + suc k) has is s (from + k) x read) ∙ old in
    let m : n - k ≡ suc (n - suc k) = omega (arith, l) in
    stored ∙ rw (is, y) (stored-below t v (to + k) (to + suc k) (field_of t s (from + k)) (fields_from t s (from + suc k) (n - suc k)) has.live (omega arith)
    ∙ next_is t s v from to k (n - suc k) ∙ ap (λ j. with_fields t v (to + k) (fields_from t s (from + k) j)) (sym m))
  where
    unread : (s ≡ v) ⊎ (s ≢ v) → field_of (with_fields t v (to + suc k) (fields_from t s (from + suc k) (n - suc k))) s (from + k) ≡ field_of t s (from + k)
    unread (inl e) = field_with_fields-beside t v (to + suc k) (fields_from t s (from + suc k) (n - suc k)) s (from + k) has.live (inl (let d = up e in omega (arith, d)))
    unread (inr d) = field_with_fields-other t v (to + suc k) (fields_from t s (from + suc k) (n - suc k)) s (from + k) has.live d

pub none_yet : (t : Table) (s v : Value) (from to n : ℕ) → t ≡ with_fields t v to (fields_from t s from (n - n))
unfolding with_fields fields_from
none_yet t s v from to n = let e : n - n ≡ 0 = omega arith in rw e refl

pub all_done : (t u : Table) (s v : Value) (from to n k : ℕ) → k ≡ 0 → u ≡ with_fields t v (to + k) (fields_from t s (from + k) (n - k)) → u ≡ with_fields t v to (fields_from t s from n)
all_done t u s v from to n k e h =
    let a : to + 0 ≡ to = omega arith in
    let b : from + 0 ≡ from = omega arith in
    let c : n - 0 ≡ n = omega arith in
    h ∙ rw (e, a, b, c) refl
