-- Who bears a pointer, over a draft.
use Rattle.std.proofs.Common.{◌≡◌, ℕ, ◌+◌, ◌-◌, ◌*◌, ◌<◌, ◌≤◌, zero, suc, Bool, true, false, List, [], ◌∷◌, length, take, Result, Ok, Err, refl, sym, ap, ◌∙◌, arith, is_some, inl, inr, ◌≢◌}
use Rattle.std.specs.Prelude.{◌==◌, nat_lt, min, Option, Some, None, if◌then◌else◌}
use Rattle.std.specs.Option.{option_map}
use Rattle.std.proofs.lemmas.Bool.{cases_eq, cases_lt}
use Rattle.std.proofs.lemmas.Bool.Decides.{nat_tests}
use Rattle.std.proofs.lemmas.List.{length-take}
use Rattle.st_model.specs.declared.word.Word.{Word}
use Rattle.st_model.specs.Values.{Value, Small, Ref, word, value_of}
use Rattle.st_model.specs.Objects.{Object}
use Rattle.st_model.specs.Machine.{Went, is_of_class, names_instance, first_instance, next_of, answer}
use Rattle.st_model.specs.Table.{Table, table, apart, entry, free_place, without_first, pointer_apart, behind_by, borne_apart}
use Rattle.st_model.specs.declared.dead.Dead.{Dead}
use Rattle.st_model.specs.Steps.{named_or_not, object_at, next_instance, class_of, same_value}
use Rattle.st_model.proofs.Tabular.{class_of-as}
use Rattle.st_model.specs.inside.Calls.{Reads}
use Rattle.st_model.proofs.Pointers.{value_of-pointer}
use Rattle.st_model.proofs.TableLemmas.{entry_past}
use Rattle.st_memory.specs.declared.made.Made.{Made}
use Rattle.st_draft.specs.declared.change.Change.{Change}
use Rattle.st_draft.specs.declared.change.Exchange.{Exchange}
use Rattle.st_draft.specs.declared.notes.Notes.{Notes}
use Rattle.st_draft.specs.declared.exchanges.Exchanges.{Exchanges}
use Rattle.st_draft.specs.inside.Noted.{noted, drafted}
use Rattle.st_draft.specs.inside.Drafts.{with_made, draft_table, exchanged_by, AreOf}
use Rattle.st_memory.specs.inside.Tabular.{apart_tabular}
use Rattle.st_draft.specs.inside.Bearing.{free_before, IsNumberOf, instance_at}
use Rattle.st_draft.proofs.Behind.{base_entry, draft_length, made_fit}
use Rattle.st_draft.proofs.Drafted.{taken}
use Rattle.st_draft.proofs.Exchanged.{live_is, live_all, length_all}
use Rattle.st_draft.proofs.Freeing.{free_rest, entry_taken}
use Rattle.st_memory.proofs.Looking.{result_got, class_in, class_look, class_looks}
use Rattle.st_draft.proofs.Replaying.{replayed_like}
use Rattle.st_memory.proofs.Bearing.{first_here, first_behind, none_named, some_named}

-- over a draft: the number of a free place

free_past_end : (n : ℕ) → free_before [] n ≡ n
free_past_end zero = refl
free_past_end (suc n) = let q = free_past_end n in omega (arith, q)

-- counted from the front
free_none : (t : Table) (n : ℕ) → free_before (None ∷ t) (suc n) ≡ suc (free_before t n)
free_none t zero = omega arith
free_none t (suc n) = let q = free_none t n in omega (arith, q)

free_some : (t : Table) (o : Object) (n : ℕ) → free_before (Some o ∷ t) (suc n) ≡ free_before t n
free_some t o zero = omega arith
free_some t o (suc n) = let q = free_some t o n in omega (arith, q)

not_before : (t : Table) (j i : ℕ) → j ≤ free_place t j i
not_before [] j i = omega arith
not_before (None ∷ t) j zero = omega arith
not_before (None ∷ t) j (suc i) = let q = not_before t (suc j) i in omega (arith, q)
not_before (Some o ∷ t) j i = let q = not_before t (suc j) i in omega (arith, q)

-- the free place that has a number has no object, and as many free ones before it
number_at : (t : Table) (j i m : ℕ) → free_place t j i ≡ j + m → (is_some (entry t m) ≡ false) × (free_before t m ≡ i)
number_at [] j i m e = (refl, free_past_end m ∙ omega (arith, e))
number_at (None ∷ t) j zero zero e = (refl, refl)
number_at (None ∷ t) j zero (suc m) e = absurd (omega (arith, e))
number_at (None ∷ t) j (suc i) zero e = let q = not_before t (suc j) i in absurd (omega (arith, q, e))
number_at (None ∷ t) j (suc i) (suc m) e = let r = number_at t (suc j) i m (omega (arith, e)) in (r.0, free_none t m ∙ ap suc r.1)
number_at (Some o ∷ t) j i zero e = let q = not_before t (suc j) i in absurd (omega (arith, q, e))
number_at (Some o ∷ t) j i (suc m) e = let r = number_at t (suc j) i m (omega (arith, e)) in (r.0, free_some t o m ∙ r.1)

place_at : (t : Table) (j m : ℕ) → is_some (entry t m) ≡ false → free_place t j (free_before t m) ≡ j + m
place_at [] j m e = ap (λ n. j + n) (free_past_end m)
place_at (None ∷ t) j zero e = omega arith
place_at (None ∷ t) j (suc m) e = ap (free_place (None ∷ t) j) (free_none t m) ∙ place_at t (suc j) m e ∙ omega arith
place_at (Some o ∷ t) j zero e = cc
place_at (Some o ∷ t) j (suc m) e = ap (free_place (Some o ∷ t) j) (free_some t o m) ∙ place_at t (suc j) m e ∙ omega arith

-- more are free before a place further on
more_free : (t : Table) (a b : ℕ) → a ≤ b → free_before t a ≤ free_before t b
more_free t a zero l = let q : a ≡ 0 = omega (arith, l) in rw q (omega arith)
more_free t a (suc b) l = elim (cases_eq a (suc b)) [
  | inl q ↦ rw q (omega arith)
  | inr d ↦ let h = more_free t a b (omega (arith, l, d)) in omega (arith, h)
]

entry_rest : (t : Table) (m : ℕ) → entry (without_first t) m ≡ entry t (suc m)
entry_rest [] m = refl
entry_rest (e ∷ t) m = refl

free_more : (t : Table) (k : ℕ) (b : Bool) → is_some (entry t (suc k)) ≡ b → free_before (without_first t) (suc k) ≡ free_before (without_first t) k + (if b then 0 else 1)
free_more t k b e = ap (λ x. free_before (without_first t) k + (if x then 0 else 1)) (ap is_some (entry_rest t k) ∙ e)

module _ (t : Table) (made k number : ℕ) (is : IsNumberOf t made k number) where
  pub number_taken : 0 < k → is_some (entry t k) ≡ true → IsNumberOf t made (k + 1) number
  number_taken l e =
      let q : k ≡ suc (k - 1) = omega (arith, l) in
      let more = free_more t (k - 1) true (sym (ap (λ j. is_some (entry t j)) q) ∙ e) in
      let same : k + 1 - 1 ≡ suc (k - 1) = omega (arith, l) in
      is ∙ ap (λ n. min n made) (omega (arith, more) ∙ sym (ap (free_before (without_first t)) same))

  pub number_free : 0 < k → is_some (entry t k) ≡ false → number ≢ made → IsNumberOf t made (k + 1) (number + 1)
  number_free l e some =
      let q : k ≡ suc (k - 1) = omega (arith, l) in
      let more = free_more t (k - 1) false (sym (ap (λ j. is_some (entry t j)) q) ∙ e) in
      let same : k + 1 - 1 ≡ suc (k - 1) = omega (arith, l) in
      let one : number + 1 ≡ min (free_before (without_first t) (suc (k - 1))) made = omega (arith, more, is, some) in
      one ∙ ap (λ n. min n made) (sym (ap (free_before (without_first t)) same))

  -- where all numbers of made objects are passed, nothing more is counted
  pub number_full : (b : ℕ) → number ≡ made → k ≤ b → IsNumberOf t made b number
  number_full b full l =
      let more = more_free (without_first t) (k - 1) (b - 1) (omega (arith, l)) in
      omega (arith, more, is, full)

pub number_first : (t : Table) (made : ℕ) → IsNumberOf t made 1 0
number_first t made = omega arith

-- a draft's table: of as many places as the memory's, at which the same have objects, and so many objects made behind them
pub record IsOver (t now : Table) (n : ℕ) : Type 0 where
  pub places : length t ≡ 32768
  pub long : length now ≡ 32768 + n
  pub low : (k : ℕ) → k < 32768 → is_some (entry now k) ≡ is_some (entry t k)

pub taken_low : (t : Table) (k : ℕ) → length t ≡ 32768 → is_some (entry t k) ≡ true → k < 32768
taken_low t k places e = elim (cases_lt k 32768) [
  | inl l ↦ l
  | inr l ↦ let q = ap is_some (entry_past t k (omega (arith, l, places))) in absurd (cc)
]

module _ {t now : Table} {n : ℕ} (over : IsOver t now n) where
  cut : length (take 32768 now) ≡ 32768
  cut = let a = length-take 32768 now in let b = over.long in omega (arith, a, b)

  low_entry : (k : ℕ) → k < 32768 → is_some (entry (take 32768 now) k) ≡ is_some (entry t k)
  low_entry k l = ap is_some (entry_taken now 32768 k l) ∙ over.low k l

  pointer_is : (i : ℕ) → pointer_apart now (32768 + i) ≡ free_place (without_first t) 1 i
  pointer_is i =
      let high : nat_lt (32768 + i) 32768 ≡ false = grind (arith, nat_tests) in
      let off : 32768 + i - 32768 ≡ i = omega arith in
      ap (λ b. if b then 32768 + i else free_place (without_first (take 32768 now)) 1 (32768 + i - 32768)) high
      ∙ ap (free_place (without_first (take 32768 now)) 1) off
      ∙ free_rest (take 32768 now) t 1 i (cut ∙ sym over.places) (λ k l. low_entry k (let c = cut in omega (arith, l, c)))

  other_pointer : (k i : ℕ) → i ≢ free_before (without_first t) k → (pointer_apart now (32768 + i) == suc k) ≡ false
  other_pointer k i d = elim (cases_eq (pointer_apart now (32768 + i)) (suc k)) [
    | inl q ↦ let r = number_at (without_first t) 1 i k (sym (pointer_is i) ∙ q ∙ omega arith) in absurd (d (sym r.1))
    | inr e ↦ grind (arith, nat_tests)
  ]

  this_pointer : (k : ℕ) → is_some (entry t (suc k)) ≡ false → (pointer_apart now (32768 + free_before (without_first t) k) == suc k) ≡ true
  this_pointer k e =
      let p = pointer_is (free_before (without_first t) k) ∙ place_at (without_first t) 1 k (ap is_some (entry_rest t k) ∙ e) in
      let q : pointer_apart now (32768 + free_before (without_first t) k) ≡ suc k = omega (arith, p) in
      grind (arith, nat_tests)

  behind_found : (k m : ℕ) → is_some (entry t (suc k)) ≡ false → free_before (without_first t) k < m → behind_by now (suc k) m ≡ Some (32768 + free_before (without_first t) k)
  behind_found k zero e l = absurd (omega (arith, l))
  behind_found k (suc m) e l = elim (cases_eq m (free_before (without_first t) k)) [
    | inl q ↦ ap (λ b. if b then Some (32768 + m) else behind_by now (suc k) m) (ap (λ i. pointer_apart now (32768 + i) == suc k) q ∙ this_pointer k e) ∙ ap (λ i. Some (32768 + i)) q
    | inr d ↦ ap (λ b. if b then Some (32768 + m) else behind_by now (suc k) m) (other_pointer k m d) ∙ behind_found k m e (omega (arith, l, d))
  ]

  behind_none : (k m : ℕ) → m ≤ free_before (without_first t) k → behind_by now (suc k) m ≡ None
  behind_none k zero l = refl
  behind_none k (suc m) l =
      let d : m ≢ free_before (without_first t) k = omega (arith, l) in
      ap (λ b. if b then Some (32768 + m) else behind_by now (suc k) m) (other_pointer k m d) ∙ behind_none k m (omega (arith, l))

  behind_zero : (m : ℕ) → behind_by now 0 m ≡ None
  behind_zero zero = refl
  behind_zero (suc m) =
      let a = not_before (without_first t) 1 m in
      let b = pointer_is m in
      let c : (pointer_apart now (32768 + m) == 0) ≡ false = let d : pointer_apart now (32768 + m) ≢ 0 = omega (arith, a, b) in grind (arith, nat_tests) in
      ap (λ x. if x then Some (32768 + m) else behind_by now 0 m) c ∙ behind_zero m

  borne_free : (k : ℕ) → is_some (entry t k) ≡ false → borne_apart now k ≡ behind_by now k n
  borne_free k e =
      let none : is_some (entry (take 32768 now) k) ≡ false = elim (cases_lt k 32768) [
        | inl l ↦ low_entry k l ∙ e
        | inr l ↦ ap is_some (entry_past (take 32768 now) k (let c = cut in omega (arith, l, c)))
      ] in
      let rest : length now - 32768 ≡ n = let b = over.long in omega (arith, b) in
      ap (λ b. if b then Some k else behind_by now k (length now - 32768)) none ∙ ap (behind_by now k) rest

  borne_taken : (k : ℕ) → is_some (entry t k) ≡ true → borne_apart now k ≡ Some k
  borne_taken k e =
      let l = taken_low t k over.places e in
      ap (λ b. if b then Some k else behind_by now k (length now - 32768)) (low_entry k l ∙ e)

  -- what the draft answers

  pub draft_taken : (k : ℕ) → is_some (entry t k) ≡ true → option_map word (Some (record { 0 = 2 * k })) ≡ named_or_not (borne_apart now k)
  draft_taken k e = sym (ap named_or_not (borne_taken k e) ∙ some_named k (record { 0 = 2 * k }) (value_of-pointer k))

  pub draft_made : (k number : ℕ) → 0 < k → is_some (entry t k) ≡ false → IsNumberOf t n k number → number < n
      → option_map word (Some (record { 0 = 65536 + 2 * number })) ≡ named_or_not (borne_apart now k)
  draft_made k number p e is l =
      let q : k ≡ suc (k - 1) = omega (arith, p) in
      let f : number ≡ free_before (without_first t) (k - 1) = omega (arith, is, l) in
      let found = behind_found (k - 1) n (sym (ap (λ j. is_some (entry t j)) q) ∙ e) (omega (arith, f, l)) in
      let double : 65536 + 2 * number ≡ 2 * (32768 + number) = omega arith in
      sym (ap named_or_not (borne_free k e ∙ ap (λ j. behind_by now j n) q ∙ found ∙ ap (λ i. Some (32768 + i)) (sym f))
      ∙ some_named (32768 + number) (record { 0 = 65536 + 2 * number }) (ap value_of double ∙ value_of-pointer (32768 + number)))

  pub draft_none : (k number : ℕ) → 0 < k → is_some (entry t k) ≡ false → IsNumberOf t n k number → n ≤ number → option_map word None ≡ named_or_not (borne_apart now k)
  draft_none k number p e is l =
      let q : k ≡ suc (k - 1) = omega (arith, p) in
      let f : n ≤ free_before (without_first t) (k - 1) = omega (arith, is, l) in
      sym (ap named_or_not (borne_free k e ∙ ap (λ j. behind_by now j n) q ∙ behind_none (k - 1) n f) ∙ none_named)

  pub draft_zero : entry t 0 ≡ None → option_map word None ≡ named_or_not (borne_apart now 0)
  draft_zero e = sym (ap named_or_not (borne_free 0 (ap is_some e) ∙ behind_zero n) ∙ none_named)

pub over_draft : (t : Table) (ms : List Made) (n : ℕ) (cs : List Change) (k : ℕ) (pairs : List Exchange) (j : ℕ) → length t ≡ 32768 → n ≤ length ms → AreOf (draft_table t ms n cs k) pairs j
    → IsOver t (exchanged_by (draft_table t ms n cs k) pairs j) n
over_draft t ms n cs k pairs j places few there =
    let before = draft_table t ms n cs k in
    record {
      places = places;
      long = length_all pairs before j there ∙ draft_length t ms n cs k places few;
      low = λ i l.
          sym (live_is (exchanged_by before pairs j) (Ref i)) ∙ live_all pairs before j there (Ref i)
          ∙ (replayed_like (with_made t ms n) cs k).live (Ref i) ∙ live_is (with_made t ms n) (Ref i)
          ∙ ap is_some (base_entry t ms n few i (omega (arith, l, places)));
    }

-- a draft is
pub over_notes : (t : Table) (notes : Notes) (e : Exchanges) → length t ≡ 32768 → AreOf (noted t notes) e.pairs e.count → IsOver t (drafted t notes e) notes.made_count
over_notes t notes e places there = over_draft t notes.made notes.made_count notes.changes notes.count e.pairs e.count places (made_fit notes) there

pub reads_bearer : (now : Table) (k : ℕ) (r : Option Word) → option_map word r ≡ named_or_not (borne_apart now k) → Reads (object_at apart k) (option_map word) now (Ok r)
unfolding object_at
reads_bearer now k r e = λ s over. ap (λ (u : Table). Went (named_or_not (borne_apart u k)) s) over ∙ ap (λ x. Went x s) (sym e)

-- an instance at a place

bearer_class : (now : Table) (o : Word) (r : Result Word Dead) → Reads (class_of apart (word o)) word now r → class_look (word o) now ≡ result_got word r
bearer_class now o r h = taken (class_of apart (word o)) (class_of apart (word o)) (class_of table (word o)) word (class_look (word o)) (class_looks (word o)) (class_of-as apart_tabular (word o)) now now r h

-- of what a class is the object that a name found names
pub data Found (now : Table) (x : Option ℕ) (o : Word) (r : Result Word Dead) : Type 0 where
  of_class : (i : ℕ) (a : Object) (own : Word) → x ≡ Some i → entry now i ≡ Some a → r ≡ Ok own → word own ≡ Ref a.class → Found now x o r
  absent : (i : ℕ) (e : Dead) → x ≡ Some i → entry now i ≡ None → r ≡ Err e → Found now x o r

module _ (now : Table) (o : Word) (r : Result Word Dead) (reads : Reads (class_of apart (word o)) word now r) where
  found_by : (x : Option ℕ) → option_map word (Some o) ≡ named_or_not x → Found now x o r
  unfolding named_or_not
  found_by None e = cc
  found_by (Some i) e = by_entry (entry now i) refl r (sym (look e) ∙ bearer_class now o r reads) refl
    where
      look : option_map word (Some o) ≡ Some (Ref i) → class_look (word o) now ≡ class_in (entry now i)
      look q = let same : word o ≡ Ref i = cc in ap (λ v. class_look v now) same

      by_entry : (a : Option Object) → entry now i ≡ a → (q : Result Word Dead) → class_in (entry now i) ≡ result_got word q → r ≡ q → Found now (Some i) o r
      by_entry None at (Ok own) h is = let p = sym (ap class_in at) ∙ h in absurd (cc)
      by_entry None at (Err k) h is = absent i k refl at is
      by_entry (Some a) at (Ok own) h is = let p = sym (ap class_in at) ∙ h in let s : Ref a.class ≡ word own = cc in of_class i a own refl at is (sym s)
      by_entry (Some a) at (Err k) h is = let p = sym (ap class_in at) ∙ h in absurd (cc)

  pub instance_true : (class : Value) (k : ℕ) (own : Word) → option_map word (Some o) ≡ named_or_not (borne_apart now k) → r ≡ Ok own → same_value (word own) class ≡ true → option_map word (Some o) ≡ named_or_not (instance_at now class k)
  unfolding instance_at
  instance_true class k own e is same = by_found class (found_by (borne_apart now k) e) same
    where
      by_found : (class : Value) → Found now (borne_apart now k) o r → same_value (word own) class ≡ true → option_map word (Some o) ≡ named_or_not (instance_at now class k)
      by_found class (absent i d x at q) s = cc
      by_found (Small c) (of_class i a w x at q c') s =
          let z : w ≡ own = cc in
          let y = sym (ap (λ v. same_value v (Small c)) (sym (ap word z) ∙ c')) ∙ s in
          absurd (cc)
      by_found (Ref c) (of_class i a w x at q c') s =
          let z : w ≡ own = cc in
          let y : (a.class == c) ≡ true = sym (ap (λ v. same_value v (Ref c)) (sym (ap word z) ∙ c')) ∙ s in
          let n : names_instance apart now c (borne_apart now k) ≡ true = ap (names_instance apart now c) x ∙ ap (is_of_class c) at ∙ y in
          e ∙ sym (ap (λ b. named_or_not (if b then borne_apart now k else None)) n)

  pub instance_false : (class : Value) (k : ℕ) (own : Word) → option_map word (Some o) ≡ named_or_not (borne_apart now k) → r ≡ Ok own → same_value (word own) class ≡ false → option_map word None ≡ named_or_not (instance_at now class k)
  unfolding instance_at
  instance_false class k own e is same = by_found class (found_by (borne_apart now k) e) same
    where
      by_found : (class : Value) → Found now (borne_apart now k) o r → same_value (word own) class ≡ false → option_map word None ≡ named_or_not (instance_at now class k)
      by_found class (absent i d x at q) s = cc
      by_found (Small c) (of_class i a w x at q c') s = sym none_named
      by_found (Ref c) (of_class i a w x at q c') s =
          let z : w ≡ own = cc in
          let y : (a.class == c) ≡ false = sym (ap (λ v. same_value v (Ref c)) (sym (ap word z) ∙ c')) ∙ s in
          let n : names_instance apart now c (borne_apart now k) ≡ false = ap (names_instance apart now c) x ∙ ap (is_of_class c) at ∙ y in
          sym none_named ∙ sym (ap (λ b. named_or_not (if b then borne_apart now k else None)) n)

  pub instance_err : (class : Value) (k : ℕ) (d : Dead) → option_map word (Some o) ≡ named_or_not (borne_apart now k) → r ≡ Err d → option_map word None ≡ named_or_not (instance_at now class k)
  unfolding instance_at
  instance_err class k d e is = by_found class (found_by (borne_apart now k) e)
    where
      by_found : (class : Value) → Found now (borne_apart now k) o r → option_map word None ≡ named_or_not (instance_at now class k)
      by_found class (of_class i a w x at q c') = cc
      by_found (Small c) (absent i h x at q) = sym none_named
      by_found (Ref c) (absent i h x at q) =
          let n : names_instance apart now c (borne_apart now k) ≡ false = ap (names_instance apart now c) x ∙ ap (is_of_class c) at in
          sym none_named ∙ sym (ap (λ b. named_or_not (if b then borne_apart now k else None)) n)

pub instance_none : (now : Table) (class : Value) (k : ℕ) → option_map word None ≡ named_or_not (borne_apart now k) → option_map word None ≡ named_or_not (instance_at now class k)
unfolding instance_at named_or_not
instance_none now (Small c) k e = refl
instance_none now (Ref c) k e = by_name (borne_apart now k) e
  where
    by_name : (x : Option ℕ) → option_map word None ≡ named_or_not x → option_map word None ≡ named_or_not (if names_instance apart now c x then x else None)
    by_name None q = refl
    by_name (Some i) q = cc

-- the search from a place on

-- the first instance of a class that bears one of so many pointers
abbrev pub first_of : Table → Value → ℕ → ℕ → Option ℕ
first_of now (Small c) k left = None
first_of now (Ref c) k left = first_instance apart now c k left

pub first_some : (now : Table) (class : Value) (k left : ℕ) (r : Option Word) → is_some r ≡ true → option_map word r ≡ named_or_not (instance_at now class k) → named_or_not (first_of now class k (suc left)) ≡ option_map word r
unfolding instance_at named_or_not
first_some now class k left None s e = cc
first_some now (Small c) k left (Some o) s e = cc
first_some now (Ref c) k left (Some o) s e = by_test (names_instance apart now c (borne_apart now k)) refl e
  where
    by_test : (b : Bool) → names_instance apart now c (borne_apart now k) ≡ b → Some (word o) ≡ named_or_not (if b then borne_apart now k else None) → named_or_not (first_instance apart now c k (suc left)) ≡ Some (word o)
    by_test true t q = ap named_or_not (first_here apart now c left k t) ∙ sym q
    by_test false t q = cc

pub first_none_here : (now : Table) (class : Value) (k left : ℕ) (r : Option Word) → is_some r ≡ false → option_map word r ≡ named_or_not (instance_at now class k)
    → named_or_not (first_of now class k (suc left)) ≡ named_or_not (first_of now class (suc k) left)
unfolding instance_at named_or_not
first_none_here now class k left (Some o) s e = cc
first_none_here now (Small c) k left None s e = refl
first_none_here now (Ref c) k left None s e = by_test (names_instance apart now c (borne_apart now k)) refl e
  where
    some_name : (x : Option ℕ) → names_instance apart now c x ≡ true → None ≡ named_or_not x → ⊥
    some_name None t q = cc
    some_name (Some i) t q = cc

    by_test : (b : Bool) → names_instance apart now c (borne_apart now k) ≡ b → None ≡ named_or_not (if b then borne_apart now k else None)
        → named_or_not (first_instance apart now c k (suc left)) ≡ named_or_not (first_instance apart now c (suc k) left)
    by_test true t q = absurd (some_name (borne_apart now k) t q)
    by_test false t q = ap named_or_not (first_behind apart now c left k t)

pub first_end : (now : Table) (class : Value) (k : ℕ) → named_or_not (first_of now class k 0) ≡ option_map word None
unfolding first_instance named_or_not
first_end now (Small c) k = refl
first_end now (Ref c) k = refl

pub reads_first : (now : Table) (class : Value) (after : ℕ) (r : Option Word) → named_or_not (first_of now class (suc after) (32767 - after)) ≡ option_map word r → Reads (next_instance apart class after) (option_map word) now (Ok r)
unfolding next_instance next_of named_or_not answer
reads_first now (Small c) after r e = λ s over. ap (λ x. Went x s) e
reads_first now (Ref c) after r e = λ s over. ap (λ (u : Table). Went (named_or_not (first_instance apart u c (suc after) (32767 - after))) s) over ∙ ap (λ x. Went x s) e
