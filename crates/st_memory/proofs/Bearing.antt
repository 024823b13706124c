-- Who bears a pointer, and the first instance of a class.
use Rattle.std.proofs.Common.{◌≡◌, ℕ, ◌+◌, ◌-◌, ◌*◌, ◌/◌, ◌<◌, ◌≤◌, zero, suc, Bool, true, false, Ok, refl, sym, ap, ◌∙◌, arith, is_some, inl, inr}
use Rattle.std.specs.Prelude.{unwrap_or, ◌==◌, ◌&&◌, Option, Some, None, if◌then◌else◌}
use Rattle.std.specs.Option.{option_map}
use Rattle.std.proofs.lemmas.Bool.{cases_eq, cases_lt}
use Rattle.std.proofs.lemmas.Bool.Decides.{nat_tests}
use Rattle.st_model.specs.declared.word.Word.{Word}
use Rattle.st_model.specs.declared.oop.Oop.{Oop}
use Rattle.st_model.specs.Values.{Value, Small, Ref, word, value, value_of, is_small}
use Rattle.st_model.specs.Objects.{Object}
use Rattle.st_model.specs.Machine.{ObjectMemory, State, Went, is_of_class, names_instance, first_instance, next_of, answer}
use Rattle.st_model.specs.Table.{Table, bounded_table, entry}
use Rattle.st_model.specs.Steps.{named_or_not, object_at, next_instance}
use Rattle.st_model.specs.View.{View, IsWhole, is_live, object_of, is_instance, nothing}
use Rattle.st_model.specs.inside.Calls.{Reads}
use Rattle.st_model.proofs.Pointers.{value_of-pointer}
use Rattle.st_model.proofs.TableLemmas.{entry_past}
use Rattle.st_memory.proofs.Bodies.{even_pointer}
use Rattle.st_memory.proofs.Wide.{named_word}

pub live_at : (t : Table) (n : ℕ) → is_live t (Ref n) ≡ is_some (entry t n)
unfolding is_live
live_at t n = refl

pub live_place : (t : Table) (k : ℕ) → is_live t (value_of (2 * k)) ≡ is_some (entry t k)
unfolding is_live
live_place t k = ap (is_live t) (value_of-pointer k)

module _ (t : Table) (k : ℕ) where
  borne_live : is_some (entry t k) ≡ true → (s : State Table) → s.memory ≡ t → (object_at bounded_table k).run s ≡ Went (Some (word (record { 0 = 2 * k }))) s
  unfolding object_at named_or_not
  borne_live e s over =
      ap (λ (u : Table). Went (named_or_not (if is_some (entry u k) then Some k else None)) s) over
      ∙ ap (λ b. Went (named_or_not (if b then Some k else None)) s) e
      ∙ ap (λ v. Went (Some v) s) (sym (value_of-pointer k))

  borne_none : is_some (entry t k) ≡ false → (s : State Table) → s.memory ≡ t → (object_at bounded_table k).run s ≡ Went None s
  unfolding object_at named_or_not
  borne_none e s over =
      ap (λ (u : Table). Went (named_or_not (if is_some (entry u k) then Some k else None)) s) over
      ∙ ap (λ b. Went (named_or_not (if b then Some k else None)) s) e

pub bearer_live : (t : Table) (k : ℕ) → is_live t (value_of (2 * k)) ≡ true → Reads (object_at bounded_table k) (option_map word) t (Ok (Some (record { 0 = 2 * k })))
bearer_live t k e = borne_live t k (sym (live_place t k) ∙ e)

pub bearer_gone : (t : Table) (k : ℕ) → is_live t (value_of (2 * k)) ≡ false → Reads (object_at bounded_table k) (option_map word) t (Ok None)
bearer_gone t k e = borne_none t k (sym (live_place t k) ∙ e)

pub bearer_far : (v : View) → IsWhole v → (k : ℕ) → 32767 < k → Reads (object_at bounded_table k) (option_map word) v.objects (Ok None)
bearer_far v whole k l = borne_none v.objects k (ap is_some (entry_past v.objects k (let p = whole.places in omega (arith, l, p))))

pub ruleset bearers = (bearer_live, bearer_gone, bearer_far)

-- the first instance

module _ (m : ObjectMemory Table) (h : Table) (c : ℕ) where
  pub first_found : (left k n : ℕ) → k ≤ n → n < k + left → names_instance m h c (m.borne_by h n) ≡ true
      → ((j : ℕ) → k ≤ j → j < n → names_instance m h c (m.borne_by h j) ≡ false) → first_instance m h c k left ≡ m.borne_by h n
  unfolding first_instance
  first_found zero k n a b e least = absurd (omega (arith, a, b))
  first_found (suc left) k n a b e least = elim (cases_eq k n) [
    | inl q ↦ ap (λ x. if x then m.borne_by h k else first_instance m h c (suc k) left) (ap (λ j. names_instance m h c (m.borne_by h j)) q ∙ e) ∙ ap (m.borne_by h) q
    | inr d ↦ ap (λ x. if x then m.borne_by h k else first_instance m h c (suc k) left) (least k (omega arith) (omega (arith, a, d)))
        ∙ first_found left (suc k) n (omega (arith, a, d)) (omega (arith, b)) e (λ j p q. least j (omega (arith, p)) q)
  ]

  pub first_missed : (left k : ℕ) → ((j : ℕ) → k ≤ j → j < k + left → names_instance m h c (m.borne_by h j) ≡ false) → first_instance m h c k left ≡ None
  unfolding first_instance
  first_missed zero k none = refl
  first_missed (suc left) k none =
      ap (λ x. if x then m.borne_by h k else first_instance m h c (suc k) left) (none k (omega arith) (omega arith))
      ∙ first_missed left (suc k) (λ j p q. none j (omega (arith, p)) (omega (arith, q)))

  pub first_here : (left k : ℕ) → names_instance m h c (m.borne_by h k) ≡ true → first_instance m h c k (suc left) ≡ m.borne_by h k
  unfolding first_instance
  first_here left k e = ap (λ x. if x then m.borne_by h k else first_instance m h c (suc k) left) e

  pub first_behind : (left k : ℕ) → names_instance m h c (m.borne_by h k) ≡ false → first_instance m h c k (suc left) ≡ first_instance m h c (suc k) left
  unfolding first_instance
  first_behind left k e = ap (λ x. if x then m.borne_by h k else first_instance m h c (suc k) left) e

names_is : (t : Table) (c k : ℕ) → names_instance bounded_table t c (if is_some (entry t k) then Some k else None) ≡ is_instance t (Ref c) (Ref k)
unfolding is_instance is_live object_of
names_is t c k = by_entry (entry t k) refl
  where
    by_entry : (e : Option Object) → entry t k ≡ e → names_instance bounded_table t c (if is_some e then Some k else None) ≡ (is_some (entry t k) && ((unwrap_or (entry t k) nothing).class == c))
    by_entry None q = ap (λ e. is_some e && ((unwrap_or e nothing).class == c)) (sym q)
    by_entry (Some o) q = ap (is_of_class c) q ∙ ap (λ e. is_some e && ((unwrap_or e nothing).class == c)) (sym q)

instance_live : (t : Table) (v x : Value) → is_instance t v x ≡ true → is_live t x ≡ true
unfolding is_instance
instance_live t (Small n) x e = cc
instance_live t (Ref n) x e = by_bool (is_live t x) ((object_of t x).class == n) e
  where
    by_bool : (a b : Bool) → (a && b) ≡ true → a ≡ true
    by_bool true b q = refl
    by_bool false b q = cc

live_below : (v : View) → IsWhole v → (n : ℕ) → is_live v.objects (Ref n) ≡ true → n < 32768
unfolding is_live
live_below v whole n e = elim (cases_lt n 32768) [
  | inl l ↦ l
  | inr l ↦ let q = ap is_some (entry_past v.objects n (let p = whole.places in omega (arith, l, p))) in absurd (cc)
]

reads_next : (t : Table) (v : Value) (c after : ℕ) (x : Option ℕ) (r : Option Word) → v ≡ Ref c → first_instance bounded_table t c (suc after) (32767 - after) ≡ x → named_or_not x ≡ option_map word r
    → Reads (next_instance bounded_table v after) (option_map word) t (Ok r)
unfolding next_instance next_of
reads_next t (Small n) c after x r e h q = cc
reads_next t (Ref n) c after x r e h q = λ s over.
    let same : n ≡ c = cc in
    ap (λ (u : Table). Went (named_or_not (first_instance bounded_table u n (suc after) (32767 - after))) s) over
    ∙ ap (λ j. Went (named_or_not (first_instance bounded_table t j (suc after) (32767 - after))) s) same
    ∙ ap (λ y. Went (named_or_not y) s) h
    ∙ ap (λ y. Went y s) q

reads_small : (t : Table) (v : Value) (after : ℕ) → is_small v ≡ true → Reads (next_instance bounded_table v after) (option_map word) t (Ok None)
unfolding next_instance answer
reads_small t (Small n) after e = λ s over. refl
reads_small t (Ref n) after e = cc

pub none_named : named_or_not None ≡ option_map word None
unfolding named_or_not
none_named = refl

pub some_named : (n : ℕ) (r : Word) → word r ≡ Ref n → named_or_not (Some n) ≡ option_map word (Some r)
unfolding named_or_not
some_named n r e = ap (λ v. Some v) (sym e)

-- whatever the class, where none has such a pointer
pub next_missed : (t : Table) (v : Value) (after : ℕ) → ((k : ℕ) → after < k → k < 32768 → is_instance t v (Ref k) ≡ false) → Reads (next_instance bounded_table v after) (option_map word) t (Ok None)
next_missed t (Small n) after none = reads_small t (Small n) after refl
next_missed t (Ref c) after none =
    reads_next t (Ref c) c after None None refl
    (first_missed bounded_table t c (32767 - after) (suc after) (λ j a b. names_is t c j ∙ none j (omega (arith, a)) (omega (arith, a, b))))
    none_named

pub next_far : (t : Table) (v : Value) (after : ℕ) → 32767 < after → Reads (next_instance bounded_table v after) (option_map word) t (Ok None)
next_far t v after l = next_missed t v after (λ k a b. absurd (omega (arith, l, a, b)))

-- no object is an instance of what isn't there

module _ (v : View) (whole : IsWhole v) where
  other_class : (c k : ℕ) (o : Object) → entry v.objects k ≡ Some o → is_some (entry v.objects c) ≡ false → is_of_class c (Some o) ≡ false
  other_class c k o q gone = elim (cases_eq o.class c) [
    | inl same ↦
        let used = (whole.complete.objects k o q).class in
        let there : is_some (entry v.objects c) ≡ true = ap is_some (sym (ap (entry v.objects) same) ∙ used.1) in
        absurd (cc)
    | inr d ↦ grind (arith, nat_tests)
  ]

  none_of : (c k : ℕ) (e : Option Object) → entry v.objects k ≡ e → is_some (entry v.objects c) ≡ false → names_instance bounded_table v.objects c (if is_some e then Some k else None) ≡ false
  none_of c k None q gone = refl
  none_of c k (Some o) q gone = ap (is_of_class c) q ∙ other_class c k o q gone

  no_instance : (x : Value) (k : ℕ) → is_live v.objects x ≡ false → is_instance v.objects x (Ref k) ≡ false
  unfolding is_instance
  no_instance (Small n) k gone = refl
  no_instance (Ref c) k gone = sym (names_is v.objects c k) ∙ none_of c k (entry v.objects k) refl (sym (live_at v.objects c) ∙ gone)

  pub next_gone : (x : Value) (after : ℕ) → is_live v.objects x ≡ false → Reads (next_instance bounded_table x after) (option_map word) v.objects (Ok None)
  next_gone x after gone = next_missed v.objects x after (λ k a b. no_instance x k gone)

  -- what the call for the next instance of a class answers

  pub next_none : (class : Oop) (x : Value) (after : ℕ) → value class ≡ x → ((p : Oop) → 2 * after < p.0 → is_instance v.objects (value class) (value p) ≡ false)
      → Reads (next_instance bounded_table x after) (option_map word) v.objects (Ok None)
  next_none class x after same none =
      next_missed v.objects x after
      (λ k a b. ap (λ y. is_instance v.objects y (Ref k)) (sym same) ∙ ap (is_instance v.objects (value class)) (sym (value_of-pointer k)) ∙ none (record { 0 = 2 * k }) (omega (arith, a)))

  pub next_some : (class o : Oop) (x : Value) (after : ℕ) (r : Word) → value class ≡ x → is_live v.objects (value class) ≡ true
      → is_instance v.objects (value class) (value o) ≡ true → 2 * after < o.0
      → ((p : Oop) → 2 * after < p.0 → p.0 < o.0 → is_instance v.objects (value class) (value p) ≡ false)
      → word r ≡ value o → Reads (next_instance bounded_table x after) (option_map word) v.objects (Ok (Some r))
  next_some class o x after r same live found above least named =
      let t = v.objects in
      let c = class.0 / 2 in
      let n = o.0 / 2 in
      let is_class : value class ≡ Ref c = named_word t class.0 live in
      let there = instance_live t (value class) (value o) found in
      let is_object : value o ≡ Ref n = named_word t o.0 there in
      let even = even_pointer t o.0 there in
      let low = live_below v whole n (ap (is_live t) (sym is_object) ∙ there) in
      let some : is_some (entry t n) ≡ true = sym (live_at t n) ∙ ap (is_live t) (sym is_object) ∙ there in
      let here = names_is t c n ∙ ap (λ y. is_instance t y (Ref n)) (sym is_class) ∙ ap (is_instance t (value class)) (sym is_object) ∙ found in
      reads_next t x c after (Some n) (Some r) (sym same ∙ is_class)
      (first_found bounded_table t c (32767 - after) (suc after) n (omega (arith, above, even)) (omega (arith, low, above, even)) here
      (λ j a b.
      names_is t c j ∙ ap (λ y. is_instance t y (Ref j)) (sym is_class) ∙ ap (is_instance t (value class)) (sym (value_of-pointer j))
      ∙ least (record { 0 = 2 * j }) (omega (arith, a)) (omega (arith, b, even)))
      ∙ ap (λ y. if y then Some n else None) some)
      (some_named n r (named ∙ is_object))
