-- Pairs that exchange their objects behind all changes: what each value names, and what changes and new objects before them are
-- behind them.
use Rattle.std.proofs.Common.{◌≡◌, ◌≢◌, ℕ, ◌+◌, ◌<◌, ◌≤◌, zero, suc, Bool, true, false, List, [], ◌∷◌, length, take, drop, refl, sym, ap, ◌∙◌, subst, arith, inl, inr, ◌⊎◌, is_some}
use Rattle.std.specs.Prelude.{unwrap_or, slice_get, slice_index_or, Option, Some, None, ◌==◌, if◌then◌else◌}
use Rattle.std.proofs.lemmas.Bool.{cases_eq, cases_lt}
use Rattle.std.proofs.lemmas.Bool.Decides.{nat_tests}
use Rattle.st_model.specs.declared.word.Word.{Word}
use Rattle.st_model.specs.Values.{Value, Small, Ref, word}
use Rattle.st_model.specs.Objects.{Object, is_pointers, with_field}
use Rattle.st_model.specs.Machine.{is_there}
use Rattle.st_model.specs.Table.{Table, table, entry, changed, exchanged, joined, total_used}
use Rattle.st_model.specs.View.{nothing, is_live, object_of, with_exchanged, with_stored, Has}
use Rattle.st_model.proofs.TableLemmas.{changed-some, changed-other, entry_past, length-changed}
use Rattle.st_model.proofs.WholeLemmas.{named}
use Rattle.st_model.proofs.Exchanging.{exchanged_is, entry-exchanged, length-exchanged, total_used-exchanged}
use Rattle.st_draft.specs.declared.change.Change.TheVariants.{Field, Fields}
use Rattle.st_draft.specs.declared.change.Exchange.{Exchange}
use Rattle.st_draft.specs.inside.Drafts.{written, all_written, pointer_fields, after_change, named_object, AllThere, no_exchange, exchanged_by, name_before, value_before, value_first, AreOf, Names}
use Rattle.st_memory.proofs.Bodies.{same_table}
use Rattle.st_draft.proofs.Writing.{written_like}
use Rattle.st_draft.proofs.Behind.{entry_joined, changed_joined}

-- what is read of a value's object alone

pub object_is : (t : Table) (v : Value) → object_of t v ≡ unwrap_or (named_object t v) nothing
unfolding object_of
object_is t (Small n) = refl
object_is t (Ref n) = refl

pub live_is : (t : Table) (v : Value) → is_live t v ≡ is_some (named_object t v)
unfolding is_live
live_is t (Small n) = refl
live_is t (Ref n) = refl

module _ (t u : Table) (v w : Value) (names : Names t u v w) where
  pub object_names : object_of t v ≡ object_of u w
  object_names = object_is t v ∙ ap (λ e. unwrap_or e nothing) names.object ∙ sym (object_is u w)

  pub live_names : is_live t v ≡ is_live u w
  live_names = live_is t v ∙ ap is_some names.object ∙ sym (live_is u w)

  pub fields_names : pointer_fields t v ≡ pointer_fields u w
  fields_names = ap (λ (o : Object). if is_pointers o.kind then o.fields else []) object_names

-- one exchange

module _ (t : Table) (a b : ℕ) (o p : Object) (at_a : entry t a ≡ Some o) (at_b : entry t b ≡ Some p) where
  some_before : (n : ℕ) → is_some (entry t (name_before a b n)) ≡ is_some (entry t n)
  some_before n = by_case (n == a) (n == b) refl refl
    where
      by_case : (x y : Bool) → (n == a) ≡ x → (n == b) ≡ y → is_some (entry t (if x then b else if y then a else n)) ≡ is_some (entry t n)
      by_case true y e f = let q : n ≡ a = grind (arith, nat_tests) in ap is_some at_b ∙ sym (ap is_some (ap (entry t) q ∙ at_a))
      by_case false true e f = let q : n ≡ b = grind (arith, nat_tests) in ap is_some at_a ∙ sym (ap is_some (ap (entry t) q ∙ at_b))
      by_case false false e f = refl

  live_once : (v : Value) → is_live (exchanged t a b) v ≡ is_live t v
  unfolding is_live
  live_once (Small n) = refl
  live_once (Ref n) = ap is_some (entry-exchanged t a b o p at_a at_b n) ∙ some_before n

-- a field written at a name

abbrev field_in : ℕ → Value → Object → Object
field_in i x o = if is_pointers o.kind then with_field o i x else o

abbrev written_in : Bool → ℕ → Value → Option Object → Option Object
written_in false i x e = e
written_in true i x None = None
written_in true i x (Some o) = Some (field_in i x o)

entry_written_here : (t : Table) (m i : ℕ) (x : Value) → entry (written t (Ref m) i x) m ≡ written_in true i x (entry t m)
unfolding written with_stored object_of
entry_written_here t m i x = by_entry (entry t m) refl
  where
    by_kind : (o : Object) (b : Bool) → entry t m ≡ Some o → entry (if b then changed t m (with_field o i x) else t) m ≡ Some (if b then with_field o i x else o)
    by_kind o true e = changed-some t m (with_field o i x) o e
    by_kind o false e = e

    none_changed : (u : Table) (o : Object) (b : Bool) → entry u m ≡ None → entry (if b then changed u m o else u) m ≡ None
    none_changed u o false e = e
    none_changed u o true e = nothing_there u m e
      where
        nothing_there : (u : Table) (k : ℕ) → entry u k ≡ None → entry (changed u k o) k ≡ None
        nothing_there [] k e = refl
        nothing_there (None ∷ u) zero e = refl
        nothing_there (Some c ∷ u) zero e = cc
        nothing_there (None ∷ u) (suc k) e = nothing_there u k e
        nothing_there (Some c ∷ u) (suc k) e = nothing_there u k e

    by_entry : (e : Option Object) → entry t m ≡ e → entry (if is_pointers (unwrap_or (entry t m) nothing).kind then changed t m (with_field (unwrap_or (entry t m) nothing) i x) else t) m ≡ written_in true i x (entry t m)
    by_entry None at = none_changed t (with_field (unwrap_or (entry t m) nothing) i x) (is_pointers (unwrap_or (entry t m) nothing).kind) at ∙ sym (ap (written_in true i x) at)
    by_entry (Some o) at =
        let is : unwrap_or (entry t m) nothing ≡ o = ap (λ e. unwrap_or e nothing) at in
        ap (λ (c : Object). entry (if is_pointers c.kind then changed t m (with_field c i x) else t) m) is
        ∙ by_kind o (is_pointers o.kind) at
        ∙ sym (ap (written_in true i x) at)

entry_written_there : (t : Table) (m n i : ℕ) (x : Value) → n ≢ m → entry (written t (Ref m) i x) n ≡ entry t n
unfolding written with_stored
entry_written_there t m n i x d = by_kind (is_pointers (object_of t (Ref m)).kind)
  where
    by_kind : (b : Bool) → entry (if b then changed t m (with_field (object_of t (Ref m)) i x) else t) n ≡ entry t n
    by_kind true = changed-other t m n (with_field (object_of t (Ref m)) i x) d
    by_kind false = refl

entry_written : (t : Table) (m n i : ℕ) (x : Value) (b : Bool) → (n == m) ≡ b → entry (written t (Ref m) i x) n ≡ written_in b i x (entry t n)
entry_written t m n i x true e =
    let q : n ≡ m = grind (arith, nat_tests) in
    subst (λ k. entry (written t (Ref m) i x) k ≡ written_in true i x (entry t k)) (sym q) (entry_written_here t m i x)
entry_written t m n i x false e =
    let d : n ≢ m = grind (arith, nat_tests) in
    entry_written_there t m n i x d

length_written : (t : Table) (v : Value) (i : ℕ) (x : Value) → length (written t v i x) ≡ length t
unfolding written with_stored
length_written t (Small n) i x = by_kind (is_pointers (object_of t (Small n)).kind)
  where
    by_kind : (b : Bool) → length (if b then t else t) ≡ length t
    by_kind true = refl
    by_kind false = refl
length_written t (Ref n) i x = by_kind (is_pointers (object_of t (Ref n)).kind)
  where
    by_kind : (b : Bool) → length (if b then changed t n (with_field (object_of t (Ref n)) i x) else t) ≡ length t
    by_kind true = length-changed t n (with_field (object_of t (Ref n)) i x)
    by_kind false = refl

pub small_written : (t : Table) (n i : ℕ) (x : Value) → written t (Small n) i x ≡ t
unfolding written with_stored
small_written t n i x = by_kind (is_pointers (object_of t (Small n)).kind)
  where
    by_kind : (b : Bool) → (if b then t else t) ≡ t
    by_kind true = refl
    by_kind false = refl

before_equal : (a b n m : ℕ) → (name_before a b n == name_before a b m) ≡ (n == m)
before_equal a b n m = by_case (cases_eq n m)
  where
    differ : n ≢ m → name_before a b n ≢ name_before a b m
    differ d e = elim (cases_eq n a) [
      | inl q ↦ d (grind (arith, nat_tests))
      | inr q ↦ d (grind (arith, nat_tests))
    ]

    by_case : (n ≡ m) ⊎ (n ≢ m) → (name_before a b n == name_before a b m) ≡ (n == m)
    by_case (inl e) = let q = ap (name_before a b) e in let left : (name_before a b n == name_before a b m) ≡ true = grind (arith, nat_tests, q) in let right : (n == m) ≡ true = grind (arith, nat_tests) in left ∙ sym right
    by_case (inr d) = let q = differ d in let left : (name_before a b n == name_before a b m) ≡ false = grind (arith, nat_tests, q) in let right : (n == m) ≡ false = grind (arith, nat_tests) in left ∙ sym right

module _ (t : Table) (x y : Value) (first : is_live t x ≡ true) (second : is_live t y ≡ true) where
  abbrev left : ℕ
  left = (named t x first).0

  abbrev right : ℕ
  right = (named t y second).0

  parts : with_exchanged t x y ≡ exchanged t left right
  unfolding with_exchanged
  parts = λ i. with_exchanged t ((named t x first).2 i) ((named t y second).2 i)

  once : (v : Value) → value_before x y v ≡ value_before (Ref left) (Ref right) v
  once v = λ i. value_before ((named t x first).2 i) ((named t y second).2 i) v

  pub length_one : length (with_exchanged t x y) ≡ length t
  length_one = ap length parts ∙ length-exchanged t left right _ _ (named t x first).3 (named t y second).3

  pub total_one : (weight : Object → ℕ) → total_used weight (with_exchanged t x y) ≡ total_used weight t
  total_one weight = ap (total_used weight) parts ∙ total_used-exchanged t left right _ _ (named t x first).3 (named t y second).3 weight

  pub live_one : (v : Value) → is_live (with_exchanged t x y) v ≡ is_live t v
  live_one v = ap (λ u. is_live u v) parts ∙ live_once t left right _ _ (named t x first).3 (named t y second).3 v

  names_parts : (v : Value) → Names (exchanged t left right) t v (value_before (Ref left) (Ref right) v)
  names_parts (Small n) = record { object = refl; small = refl }
  names_parts (Ref n) = record { object = entry-exchanged t left right _ _ (named t x first).3 (named t y second).3 n; small = refl }

  pub names_one : (v : Value) → Names (with_exchanged t x y) t v (value_before x y v)
  names_one v = subst (λ w. Names (with_exchanged t x y) t v w) (sym (once v)) (subst (λ u. Names u t v (value_before (Ref left) (Ref right) v)) (sym parts) (names_parts v))

  -- a store before is a store behind

  written_parts : (m i : ℕ) (z : Value) → exchanged (written t (Ref (name_before left right m)) i z) left right ≡ written (exchanged t left right) (Ref m) i z
  written_parts m i z =
      let w = written t (Ref (name_before left right m)) i z in
      let like = written_like t (Ref (name_before left right m)) i z in
      let r = named w x (like.live x ∙ first) in
      let s = named w y (like.live y ∙ second) in
      let at_left : entry w left ≡ Some r.1 = subst (λ k. entry w k ≡ Some r.1) (same_name x r.0 left r.2 (named t x first).2) r.3 in
      let at_right : entry w right ≡ Some s.1 = subst (λ k. entry w k ≡ Some s.1) (same_name y s.0 right s.2 (named t y second).2) s.3 in
      same_table (exchanged w left right) (written (exchanged t left right) (Ref m) i z)
      (length-exchanged w left right _ _ at_left at_right ∙ length_written t (Ref (name_before left right m)) i z
      ∙ sym (length-exchanged t left right _ _ (named t x first).3 (named t y second).3) ∙ sym (length_written (exchanged t left right) (Ref m) i z))
      (λ j.
      entry-exchanged w left right _ _ at_left at_right j
      ∙ entry_written t (name_before left right m) (name_before left right j) i z (j == m) (before_equal left right j m)
      ∙ ap (written_in (j == m) i z) (sym (entry-exchanged t left right _ _ (named t x first).3 (named t y second).3 j))
      ∙ sym (entry_written (exchanged t left right) m j i z (j == m) refl))
    where
      same_name : (v : Value) (a b : ℕ) → v ≡ Ref a → v ≡ Ref b → a ≡ b
      same_name v a b p q = cc

  moved_parts : (v : Value) (i : ℕ) (z : Value) → exchanged (written t (value_before (Ref left) (Ref right) v) i z) left right ≡ written (exchanged t left right) v i z
  moved_parts (Small n) i z = ap (λ u. exchanged u left right) (small_written t n i z) ∙ sym (small_written (exchanged t left right) n i z)
  moved_parts (Ref m) i z = written_parts m i z

  exchange_parts : (u : Table) → with_exchanged u x y ≡ exchanged u left right
  unfolding with_exchanged
  exchange_parts u = λ i. with_exchanged u ((named t x first).2 i) ((named t y second).2 i)

  pub written_one : (v : Value) (i : ℕ) (z : Value) → with_exchanged (written t (value_before x y v) i z) x y ≡ written (with_exchanged t x y) v i z
  written_one v i z =
      ap (λ w. with_exchanged (written t w i z) x y) (once v)
      ∙ exchange_parts (written t (value_before (Ref left) (Ref right) v) i z)
      ∙ moved_parts v i z
      ∙ ap (λ u. written u v i z) (sym (exchange_parts t))

  -- and an object made before is one made behind
  pub joined_one : (o : Object) → with_exchanged (joined t o) x y ≡ joined (with_exchanged t x y) o
  joined_one o =
      let at_left = (named t x first).3 in
      let at_right = (named t y second).3 in
      let low = below t left _ at_left in
      let high = below t right _ at_right in
      let long : right < length (changed t left (named t y second).1) = let l = length-changed t left (named t y second).1 in omega (arith, high, l) in
      exchange_parts (joined t o)
      ∙ exchanged_is (joined t o) left right _ _ (entry_joined t o left low ∙ at_left) (entry_joined t o right high ∙ at_right)
      ∙ ap (λ u. changed u right (named t x first).1) (changed_joined t o (named t y second).1 left low)
      ∙ changed_joined (changed t left (named t y second).1) o (named t x first).1 right long
      ∙ ap (λ u. joined u o) (sym (exchanged_is t left right _ _ at_left at_right) ∙ sym (exchange_parts t))
    where
      below : (u : Table) (k : ℕ) (a : Object) → entry u k ≡ Some a → k < length u
      below u k a e = elim (cases_lt k (length u)) [
        | inl l ↦ l
        | inr l ↦ let z = entry_past u k l in absurd (cc)
      ]

-- all of the first n pairs

pub of_fewer : (t : Table) (pairs : List Exchange) (n : ℕ) → AreOf t pairs (suc n) → AreOf t pairs n
of_fewer t pairs n of = λ k l. of k (omega (arith, l))

pub of_same : (t u : Table) (pairs : List Exchange) (n : ℕ) → ((v : Value) → is_live t v ≡ true → is_live u v ≡ true) → AreOf t pairs n → AreOf u pairs n
of_same t u pairs n more of = λ k l. let r = of k l in (more _ r.0, more _ r.1)

module _ (pairs : List Exchange) where
  abbrev one : ℕ → Value
  one k = word (slice_index_or pairs k no_exchange).first

  abbrev two : ℕ → Value
  two k = word (slice_index_or pairs k no_exchange).second

  pub live_all : (t : Table) (n : ℕ) → AreOf t pairs n → (v : Value) → is_live (exchanged_by t pairs n) v ≡ is_live t v
  unfolding exchanged_by
  live_all t zero of v = refl
  live_all t (suc n) of v =
      let r = of n (omega arith) in
      let before = live_all t n (of_fewer t pairs n of) in
      live_one (exchanged_by t pairs n) (one n) (two n) (before (one n) ∙ r.0) (before (two n) ∙ r.1) v ∙ before v

  module _ (t : Table) (n : ℕ) (of : AreOf t pairs (suc n)) where
    abbrev pub u : Table
    u = exchanged_by t pairs n

    pub first_live : is_live u (one n) ≡ true
    first_live = live_all t n (of_fewer t pairs n of) (one n) ∙ (of n (omega arith)).0

    pub second_live : is_live u (two n) ≡ true
    second_live = live_all t n (of_fewer t pairs n of) (two n) ∙ (of n (omega arith)).1

  pub length_all : (t : Table) (n : ℕ) → AreOf t pairs n → length (exchanged_by t pairs n) ≡ length t
  unfolding exchanged_by
  length_all t zero of = refl
  length_all t (suc n) of = length_one (exchanged_by t pairs n) (one n) (two n) (first_live t n of) (second_live t n of) ∙ length_all t n (of_fewer t pairs n of)

  pub total_all : (weight : Object → ℕ) (t : Table) (n : ℕ) → AreOf t pairs n → total_used weight (exchanged_by t pairs n) ≡ total_used weight t
  unfolding exchanged_by
  total_all weight t zero of = refl
  total_all weight t (suc n) of = total_one (exchanged_by t pairs n) (one n) (two n) (first_live t n of) (second_live t n of) weight ∙ total_all weight t n (of_fewer t pairs n of)

  names_through : (t u w : Table) (x y z : Value) → Names t u x y → Names u w y z → Names t w x z
  names_through t u w x y z p q = record { object = p.object ∙ q.object; small = p.small ∙ q.small }

  pub names_all : (t : Table) (n : ℕ) → AreOf t pairs n → (v : Value) → Names (exchanged_by t pairs n) t v (value_first pairs n v)
  unfolding exchanged_by value_first
  names_all t zero of v = record { object = refl; small = refl }
  names_all t (suc n) of v =
      let w = value_before (one n) (two n) v in
      names_through (exchanged_by t pairs (suc n)) (exchanged_by t pairs n) t v w (value_first pairs n w)
      (names_one (exchanged_by t pairs n) (one n) (two n) (first_live t n of) (second_live t n of) v)
      (names_all t n (of_fewer t pairs n of) w)

  of_written : (t : Table) (v : Value) (i : ℕ) (x : Value) (n : ℕ) → AreOf t pairs n → AreOf (written t v i x) pairs n
  of_written t v i x n of = of_same t (written t v i x) pairs n (λ w h. (written_like t v i x).live w ∙ h) of

  pub written_all : (t : Table) (n : ℕ) → AreOf t pairs n → (v : Value) (i : ℕ) (x : Value) → exchanged_by (written t (value_first pairs n v) i x) pairs n ≡ written (exchanged_by t pairs n) v i x
  unfolding exchanged_by value_first
  written_all t zero of v i x = refl
  written_all t (suc n) of v i x =
      ap (λ u. with_exchanged u (one n) (two n)) (written_all t n (of_fewer t pairs n of) (value_before (one n) (two n) v) i x)
      ∙ written_one (exchanged_by t pairs n) (one n) (two n) (first_live t n of) (second_live t n of) v i x

  pub all_written_all : (xs : List Value) (t : Table) (n : ℕ) → AreOf t pairs n → (v : Value) (i : ℕ) → exchanged_by (all_written t (value_first pairs n v) i xs) pairs n ≡ all_written (exchanged_by t pairs n) v i xs
  unfolding all_written
  all_written_all [] t n of v i = refl
  all_written_all (x ∷ xs) t n of v i =
      all_written_all xs (written t (value_first pairs n v) i x) n (of_written t (value_first pairs n v) i x n of) v (suc i)
      ∙ ap (λ u. all_written u v (suc i) xs) (written_all t n of v i x)

  pub joined_all : (t : Table) (n : ℕ) → AreOf t pairs n → (o : Object) → exchanged_by (joined t o) pairs n ≡ joined (exchanged_by t pairs n) o
  unfolding exchanged_by
  joined_all t zero of o = refl
  joined_all t (suc n) of o =
      ap (λ u. with_exchanged u (one n) (two n)) (joined_all t n (of_fewer t pairs n of) o)
      ∙ joined_one (exchanged_by t pairs n) (one n) (two n) (first_live t n of) (second_live t n of) o

  -- a change of the values before is that change behind

  pub field_all : (t : Table) (n : ℕ) → AreOf t pairs n → (o p x : Word) (i : ℕ) → word p ≡ value_first pairs n (word o)
      → exchanged_by (after_change t (Field p i x)) pairs n ≡ after_change (exchanged_by t pairs n) (Field o i x)
  unfolding after_change
  field_all t n of o p x i is = ap (λ v. exchanged_by (written t v i (word x)) pairs n) is ∙ written_all t n of (word o) i (word x)

  pub fields_all : (t : Table) (n : ℕ) → AreOf t pairs n → (count from to : ℕ) (source target s r : Word) → word s ≡ value_first pairs n (word source) → word r ≡ value_first pairs n (word target)
      → exchanged_by (after_change t (Fields count s from r to)) pairs n ≡ after_change (exchanged_by t pairs n) (Fields count source from target to)
  unfolding after_change
  fields_all t n of count from to source target s r s_is r_is =
      let names = names_all t n of (word source) in
      let same : pointer_fields t (word s) ≡ pointer_fields (exchanged_by t pairs n) (word source) =
      ap (pointer_fields t) s_is ∙ sym (fields_names (exchanged_by t pairs n) t (word source) (value_first pairs n (word source)) names) in
      ap (λ fs. exchanged_by (all_written t (word r) to (take count (drop from fs))) pairs n) same
      ∙ ap (λ v. exchanged_by (all_written t v to (take count (drop from (pointer_fields (exchanged_by t pairs n) (word source))))) pairs n) r_is
      ∙ all_written_all (take count (drop from (pointer_fields (exchanged_by t pairs n) (word source)))) t n of (word target) to

  there_same : (t u : Table) (x : Value) → is_live t x ≡ is_live u x → is_there table t x ≡ is_there table u x
  unfolding is_live
  there_same t u (Small k) e = refl
  there_same t u (Ref k) e = e

  pub there_all : (t : Table) (n : ℕ) → AreOf t pairs n → (x : Value) → is_there table (exchanged_by t pairs n) x ≡ is_there table t x
  there_all t n of x = there_same (exchanged_by t pairs n) t x (live_all t n of x)

  -- what stands in fields is there behind the exchanges too
  pub closed_all : (t : Table) (n : ℕ) → AreOf t pairs n → AllThere t → AllThere (exchanged_by t pairs n)
  closed_all t n of closed = λ v i x e.
      let names = names_all t n of v in
      there_all t n of x ∙ closed (value_first pairs n v) i x (sym (ap (λ (o : Object). slice_get o.fields i) (object_names (exchanged_by t pairs n) t v (value_first pairs n v) names)) ∙ e)

module _ (t u : Table) (v w : Value) (names : Names t u v w) where
  pub has_names : (from n : ℕ) → Has u w from n → Has t v from n
  has_names from n has = record {
    live = live_names t u v w names ∙ has.live;
    kind = ap (λ (o : Object). is_pointers o.kind) (object_names t u v w names) ∙ has.kind;
    fields = subst (λ (o : Object). from + n ≤ length o.fields) (sym (object_names t u v w names)) has.fields;
  }
