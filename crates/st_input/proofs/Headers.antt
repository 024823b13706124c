-- Headers and literals that are stored in a Method.
use Rattle.std.proofs.Common.{◌≡◌, ◌≢◌, ℕ, ◌+◌, ◌≤◌, length, Option, Some, None, Bool, true, false, refl, ap, ◌∙◌, arith, inl, inr}
use Rattle.std.specs.Prelude.{if◌then◌else◌, slice_get, nat_lt, ◌&&◌, ◌==◌, ◌%◌}
use Rattle.std.proofs.lemmas.Bool.Decides.{nat_tests}
use Rattle.st_model.specs.Values.{Value, Small, Ref, is_small}
use Rattle.st_model.specs.Objects.{Object, is_method, with_field}
use Rattle.st_model.specs.Formed.{literals_of}
use Rattle.st_model.specs.Machine.{is_there}
use Rattle.st_model.specs.Table.{Table, table}
use Rattle.st_model.specs.View.{is_live, object_of, with_stored}
use Rattle.st_model.specs.Deeds.{changed_by, counts_literals, header_stored, literal_stored}
use Rattle.st_input.proofs.Done.{gone_stays, left_stays, field_becomes, field_past, and_false}
use Rattle.st_model.proofs.SettledIs.{bool_cases}

pub if_same : (b : Bool) (o : Object) → (if b then o else o) ≡ o
if_same true o = refl
if_same false o = refl

-- where there is no Method
module _ (t : Table) (v : Value) (none : is_live t v ≡ true → is_method (object_of t v).kind ≡ false) where
  pub no_header : (x : Value) → t ≡ changed_by (header_stored x) t v
  no_header x = elim (bool_cases (is_live t v)) [
    | inl live ↦ left_stays (header_stored x) t v (rw (none live) refl)
    | inr gone ↦ gone_stays (header_stored x) t v gone
  ]

  pub no_literal : (i : ℕ) (x : Value) (known : Bool) → t ≡ changed_by (literal_stored i x known) t v
  no_literal i x known = elim (bool_cases (is_live t v)) [
    | inl live ↦ left_stays (literal_stored i x known) t v (rw (none live) refl)
    | inr gone ↦ gone_stays (literal_stored i x known) t v gone
  ]

-- whether a header counts as many literals as that before it

absent : (t : Table) (x : Value) (f : Option Value) → is_there table t x ≡ false → counts_literals x f ≡ false
absent t (Small n) None e = refl
absent t (Small n) (Some h) e = rw e refl
absent t (Ref n) f e = refl

no_small : (x : Value) (f : Option Value) → is_small x ≡ false → counts_literals x f ≡ false
no_small (Small n) f e = cc
no_small (Ref n) f e = refl

counted : (t : Table) (x h : Value) → is_there table t x ≡ true → is_small x ≡ true → is_small h ≡ true → literals_of x ≡ literals_of h → counts_literals x (Some h) ≡ true
counted t (Small n) (Small k) there small header e = let r : (n % 64 == k % 64) ≡ true = grind (arith, nat_tests, e) in rw (there, r) refl
counted t (Small n) (Ref k) there small header e = cc
counted t (Ref n) h there small header e = cc

uncounted : (x h : Value) → is_small x ≡ true → is_small h ≡ true → literals_of x ≢ literals_of h → counts_literals x (Some h) ≡ false
uncounted (Small n) (Small k) small header d =
    let r : (n % 64 == k % 64) ≡ false = grind (arith, nat_tests, d) in
    ap (λ b. nat_lt n 32768 && b) r ∙ and_false (nat_lt n 32768)
uncounted (Small n) (Ref k) small header d = cc
uncounted (Ref n) h small header d = cc

module _ (t : Table) (v x : Value) where
  header_stays : counts_literals x (slice_get (object_of t v).fields 0) ≡ false → t ≡ changed_by (header_stored x) t v
  header_stays e = left_stays (header_stored x) t v (ap (λ b. if is_method (object_of t v).kind && b then with_field (object_of t v) 0 x else object_of t v) e
      ∙ ap (λ b. if b then with_field (object_of t v) 0 x else object_of t v) (and_false (is_method (object_of t v).kind)))

  pub absent_header : is_there table t x ≡ false → t ≡ changed_by (header_stored x) t v
  absent_header e = header_stays (absent t x (slice_get (object_of t v).fields 0) e)

  pub no_small_header : is_small x ≡ false → t ≡ changed_by (header_stored x) t v
  no_small_header e = header_stays (no_small x (slice_get (object_of t v).fields 0) e)

  pub other_header : (h : Value) → slice_get (object_of t v).fields 0 ≡ Some h → is_small x ≡ true → is_small h ≡ true → literals_of x ≢ literals_of h → t ≡ changed_by (header_stored x) t v
  other_header h e small header d = header_stays (ap (counts_literals x) e ∙ uncounted x h small header d)

  pub same_header : (h : Value) → is_live t v ≡ true → is_method (object_of t v).kind ≡ true → slice_get (object_of t v).fields 0 ≡ Some h → is_there table t x ≡ true → is_small x ≡ true → is_small h ≡ true → literals_of x ≡ literals_of h
      → with_stored t v 0 x ≡ changed_by (header_stored x) t v
  same_header h live k e there small header l =
      let r : counts_literals x (slice_get (object_of t v).fields 0) ≡ true = ap (counts_literals x) e ∙ counted t x h there small header l in
      field_becomes (header_stored x) t v 0 x live (rw (k, r) refl)

  pub literal_here : (i : ℕ) (known : Bool) → is_live t v ≡ true → is_method (object_of t v).kind ≡ true → known ≡ true → with_stored t v (i + 1) x ≡ changed_by (literal_stored i x known) t v
  literal_here i known live k e = field_becomes (literal_stored i x known) t v (i + 1) x live (rw (k, e) refl)

  pub absent_literal : (i : ℕ) (known : Bool) → known ≡ false → t ≡ changed_by (literal_stored i x known) t v
  absent_literal i known e = left_stays (literal_stored i x known) t v (rw (e, and_false (is_method (object_of t v).kind)) refl)

  pub literal_past : (i : ℕ) (known : Bool) → length (object_of t v).fields ≤ i + 1 → t ≡ changed_by (literal_stored i x known) t v
  literal_past i known l =
      let o = object_of t v in
      left_stays (literal_stored i x known) t v (ap (λ p. if is_method o.kind && known then p else o) (field_past o (i + 1) x l) ∙ if_same (is_method o.kind && known) o)
