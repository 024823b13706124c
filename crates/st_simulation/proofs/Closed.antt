-- A step leaves a table in which nothing dangles closed: what it keeps, it has found there.
use Rattle.std.proofs.Common.{◌≡◌, ◌≢◌, ℕ, ◌+◌, ◌<◌, ◌≤◌, [], ◌∷◌, suc, length, Option, Some, None, Bool, true, false, refl, sym, ◌∙◌, ap, subst, arith, inl, inr, ◌⊎◌}
use Rattle.std.specs.Prelude.{◌&&◌, nat_le}
use Rattle.std.proofs.lemmas.Bool.Decides.{nat_tests}
use Rattle.st_model.specs.Objects.{Object, place_of, one, renamed_object, IsLiveObject}
use Rattle.st_model.specs.declared.page.PageObject.{PageObject}
use Rattle.st_model.specs.Outcomes.{Outcome}
use Rattle.st_model.specs.Machine.{ObjectMemory, Head, State, Transition, Died, Went, Step, has_room, used, roots_of, ◌>>◌}
use Rattle.st_model.specs.Table.{Table, table, bounded_table, entry, changed, exchanged, placed, first_none, filled_first, first_free, total_used}
use Rattle.st_model.specs.Steps.{look_at_words}
use Rattle.st_model.specs.Executing.{respond_or_perform}
use Rattle.st_model.specs.Bytecodes.{step}
use Rattle.st_model.specs.Show.{IsUsed, IsClosed, renamed_head}
use Rattle.st_model.specs.inside.Foreseen.{IsSound}
use Rattle.st_simulation.proofs.Same.{never_beyond, Simulation, StateSame, TransitionSame, Same}
use Rattle.st_simulation.proofs.ExecutingSame.{tried-same}
use Rattle.st_simulation.proofs.BytecodesSame.{step-same}
use Rattle.st_simulation.proofs.ContextsSame.{fetch_scheduled_registers-same}
use Rattle.st_model.specs.Contexts.{fetch_scheduled_registers}
use Rattle.st_model.proofs.TableLemmas.{changed-some, changed-other, placed-first, placed-other, first_free-none, length-changed}
use Rattle.st_simulation.proofs.HeapsSame.{number_cases}
use Rattle.st_model.proofs.Names.{AnyName, any_values, map_object}
use Rattle.st_model.proofs.Exchanging.{exchanged_is, exchanged_all, used_exchanged}
use Rattle.st_simulation.proofs.Bounded.{same_name, read_same, object-itself, registers-itself, world-itself, head-itself, number-itself}

-- what is there stays there

pub used_changed : (t : Table) (n k : ℕ) (p : Object) → IsUsed t k → IsUsed (changed t n p) k
used_changed t n k p u = elim (number_cases k n) [
  | inl e ↦ (p, rw e (changed-some t n p u.0 (subst (λ x. entry t x ≡ Some u.0) e u.1)))
  | inr d ↦ (u.0, changed-other t n k p d ∙ u.1)
]

not_free : (t : Table) (k : ℕ) → IsUsed t k → k ≢ first_free t
not_free t k u e =
    let a = first_free-none t in
    let b : entry t (first_free t) ≡ Some u.0 = subst (λ x. entry t x ≡ Some u.0) e u.1 in
    cc

pub used_placed : (t : Table) (k : ℕ) (p : Object) → IsUsed t k → IsUsed (placed t p) k
used_placed t k p u = (u.0, placed-other t k p (not_free t k u) ∙ u.1)

-- objects that refer to what is there, with the page

pub record IsClosedTable (t : Table) : Type 0 where
  pub objects : (k : ℕ) (o : Object) → entry t k ≡ Some o → IsLiveObject (IsUsed t) o
  pub page : (q : PageObject) → IsUsed t (place_of q)

pub changed_closed : (t : Table) (n : ℕ) (o p : Object) → IsClosedTable t → entry t n ≡ Some o → IsLiveObject (IsUsed t) p → IsClosedTable (changed t n p)
changed_closed t n o p c e h =
    let up : (k : ℕ) → IsUsed t k → IsUsed (changed t n p) k = λ k u. used_changed t n k p u in
    record {
      objects = λ k a f. elim (number_cases k n) [
        | inl q ↦
            let g : Some p ≡ Some a = sym (changed-some t n p o e) ∙ subst (λ y. entry (changed t n p) y ≡ Some a) q f in
            let r : p ≡ a = cc in
            subst (λ y. IsLiveObject (IsUsed (changed t n p)) y) r (map_object (IsUsed t) (IsUsed (changed t n p)) up p h)
        | inr d ↦ map_object (IsUsed t) (IsUsed (changed t n p)) up a (c.objects k a (sym (changed-other t n k p d) ∙ f))
      ];
      page = λ q. up (place_of q) (c.page q);
    }

pub exchanged_closed : (t : Table) (a b : ℕ) (o p : Object) → IsClosedTable t → entry t a ≡ Some o → entry t b ≡ Some p → IsClosedTable (exchanged t a b)
exchanged_closed t a b o p c e f =
    let up = used_exchanged t a b o p e f in
    record {
      objects = exchanged_all t a b o p e f (IsLiveObject (IsUsed (exchanged t a b))) (λ k x g. map_object (IsUsed t) (IsUsed (exchanged t a b)) up x (c.objects k x g));
      page = λ q. up (place_of q) (c.page q);
    }

pub placed_closed : (t : Table) (p : Object) → IsClosedTable t → IsLiveObject (IsUsed t) p → IsClosedTable (placed t p)
placed_closed t p c l =
    let up : (k : ℕ) → IsUsed t k → IsUsed (placed t p) k = λ k u. used_placed t k p u in
    record {
      objects = λ k a f. elim (number_cases k (first_free t)) [
        | inl q ↦
            let g : Some p ≡ Some a = sym (placed-first t p) ∙ subst (λ y. entry (placed t p) y ≡ Some a) q f in
            let r : p ≡ a = cc in
            subst (λ y. IsLiveObject (IsUsed (placed t p)) y) r (map_object (IsUsed t) (IsUsed (placed t p)) up p l)
        | inr d ↦ map_object (IsUsed t) (IsUsed (placed t p)) up a (c.objects k a (sym (placed-other t k p d) ∙ f))
      ];
      page = λ q. up (place_of q) (c.page q);
    }

abbrev pub table_or_bounded : Bool → ObjectMemory Table
table_or_bounded b = record table { bounded = b }

pub same_room : (bound : Bool) (t u : Table) (a b : Head) (o : Object) → u ≡ t → b ≡ renamed_head same_name a
    → has_room (table_or_bounded bound) b u (renamed_object same_name o) ≡ has_room (table_or_bounded bound) a t o
same_room bound t u a b o e f = let g = f ∙ head-itself a in λ i. has_room (table_or_bounded bound) (g i) (e i) (object-itself o i)

-- The table beside itself, bounded or not. Besides that it is closed, it keeps what a change of an object and a new one
-- with room for it keep.
module _ (bound : Bool) (a : Head) (P : Table → Type 0) (on_changed : (t : Table) (n : ℕ) (o : Object) → P t → P (changed t n o))
    (on_placed : (t : Table) (o : Object) → P t → has_room (table_or_bounded bound) a t o ≡ true → P (placed t o)) where
  pub on_exchanged : (t : Table) (n m : ℕ) (o p : Object) → P t → entry t n ≡ Some o → entry t m ≡ Some p → P (exchanged t n m)
  on_exchanged t n m o p h e f = subst P (sym (exchanged_is t n m o p e f)) (on_changed (changed t n p) m o (on_changed t n p h))

  abbrev pub closed_simulation : Simulation (table_or_bounded bound) (table_or_bounded bound)
  closed_simulation = record {
    live = AnyName;
    name = same_name;
    heaps = λ t u. (u ≡ t) × IsClosedTable t × P t;
    there = IsUsed;
    limits = λ b. b ≡ a;
    makes = Unit {0};
    beyond = never_beyond _ _;
    injective = λ m n k l e. e;
    read = λ t u n e l. rw e.0 (read_same (entry t n));
    read_there = λ t u n o e f. ((o, f), e.1.objects n o f);
    replace = λ t u n o p e l f lp k. (rw (e.0, object-itself p) refl, changed_closed t n o p e.1 f k, on_changed t n p e.2);
    exchange = λ t u n m o p e l k f g. (rw e.0 refl, exchanged_closed t n m o p e.1 f g, on_exchanged t n m o p e.2 f g);
    append = λ t u b o e l g lo k. (rw (e.0, object-itself o) refl, placed_closed t o e.1 k, on_placed t o e.2 (rw l at g));
    next_live = λ t u e. tt;
    next = λ t u e. rw e.0 refl;
    named_live = λ t u q e. (tt, e.1.page q);
    named = λ t u q e. refl;
    pointer = λ t u n o e l f. refl;
    borne_live = λ t u p n e f. tt;
    borne_by = λ t u p e. rw e.0 (number-itself (table.borne_by t p));
    used = λ t u e. ap (used table) e.0;
    rooms = λ t u b c o m e l f. inl (same_room bound t u b c o e.0 f);
    there_replace = λ t n m o p e k. used_changed t n m p k;
    there_exchange = λ t n m i o p e f k. used_exchanged t n m o p e f i k;
    there_append = λ t m o k. used_placed t m o k;
  }

  states_closed : (c : State Table) → IsClosed c → P c.memory → c.head ≡ a → StateSame closed_simulation c c
  states_closed c k p e = record {
    memory = (refl, record { objects = k.objects; page = k.page }, p);
    limits = e;
    there = k.roots;
    roots = any_values (roots_of c);
    registers = sym (registers-itself c.registers);
    world = sym (world-itself c.world);
    head = sym (head-itself c.head);
  }

  abbrev pub StaysClosed : State Table → Type 0
  StaysClosed d = IsClosed d × P d.memory × (d.head ≡ a)

  closed_after : {A B : Type 0} (Q : A → Type 0) (r : A → B) (x : A) (d : State Table) (q : Transition (State Table) B) → TransitionSame closed_simulation Q r (Went x d) q → StaysClosed d
  closed_after Q r x d (Died k) h = absurd h.1
  closed_after Q r x d (Went b e) (inl h) = absurd h.1
  closed_after Q r x d (Went b e) (inr h) =
      let m = h.2.memory.1 in
      (record { objects = m.objects; page = m.page; roots = h.2.there }, h.2.memory.2, h.2.limits)

  -- a step that does the same beside itself leaves closed what was
  stays_closed : {A : Type 0} (Q : A → Type 0) (r : A → A) (m : Step Table A) → Same closed_simulation Q r m m
      → (c d : State Table) (x : A) → IsClosed c → P c.memory → c.head ≡ a → m.run c ≡ Went x d → StaysClosed d
  stays_closed Q r m same c d x k p f e =
      let h = same.go c c (states_closed c k p f) in
      closed_after Q r x d (m.run c) (subst (λ o. TransitionSame closed_simulation Q r o (m.run c)) e h)

module _ (a : Head) (P : Table → Type 0) (on_changed : (t : Table) (n : ℕ) (o : Object) → P t → P (changed t n o))
    (on_placed : (t : Table) (o : Object) → P t → has_room bounded_table a t o ≡ true → P (placed t o)) where
  step_stays : (c d : State Table) (o : Outcome) → IsClosed c → P c.memory → c.head ≡ a → (step bounded_table).run c ≡ Went o d → StaysClosed true a P on_changed on_placed d
  step_stays c d o k p f e = stays_closed true a P on_changed on_placed _ _ (step bounded_table) (step-same (closed_simulation true a P on_changed on_placed) tt) c d o k p f e

pub step_closed : (c d : State Table) (o : Outcome) → IsClosed c → (step bounded_table).run c ≡ Went o d → IsClosed d
step_closed c d o k e = (step_stays c.head (λ t. Unit {0}) (λ t n o p. tt) (λ t o p g. tt) c d o k tt refl e).0

-- so does a primitive by its number
pub number_closed : (k n : ℕ) (c d : State Table) (o : Option Outcome) → IsClosed c → (look_at_words bounded_table n >> respond_or_perform bounded_table k n).run c ≡ Went o d → IsClosed d
number_closed k n c d o h e =
    let s = closed_simulation true c.head (λ t. Unit {0}) (λ t n o p. tt) (λ t o p g. tt) in
    (stays_closed true c.head (λ t. Unit {0}) (λ t n o p. tt) (λ t o p g. tt) _ _ (look_at_words bounded_table n >> respond_or_perform bounded_table k n) (tried-same s tt k n) c d o h tt refl e).0

-- so does the fetching of registers
pub fetched_closed : (c d : State Table) → IsClosed c → (fetch_scheduled_registers table).run c ≡ Went tt d → IsClosed d
fetched_closed c d k e =
    let s = closed_simulation false c.head (λ t. Unit {0}) (λ t n o p. tt) (λ t o p g. tt) in
    (stays_closed false c.head (λ t. Unit {0}) (λ t n o p. tt) (λ t o p g. tt) _ _ (fetch_scheduled_registers table) (fetch_scheduled_registers-same s) c d tt k tt refl e).0

-- a table of 32768 places stays so, where there is room for fewer objects than that

used_or_free : (t : Table) → (total_used one t ≡ length t) ⊎ (first_none t < length t)
used_or_free [] = inl refl
used_or_free (None ∷ t) = inr (omega arith)
used_or_free (Some o ∷ t) = elim (used_or_free t) [ inl e ↦ inl (omega (arith, e)) | inr l ↦ inr (omega (arith, l)) ]

length-filled : (t : Table) (o : Object) → first_none t < length t → length (filled_first t o) ≡ length t
length-filled [] o l = absurd (omega arith)
length-filled (None ∷ t) o l = refl
length-filled (Some a ∷ t) o l = ap (λ n. suc n) (length-filled t o (omega arith))

used_tail : (e : Option Object) (t : Table) → total_used one t ≤ total_used one (e ∷ t)
used_tail None t = omega arith
used_tail (Some o) t = omega arith

pub length-placed : (t : Table) (o : Object) → 0 < length t → total_used one t + 1 < length t → length (placed t o) ≡ length t
length-placed [] o l g = absurd (omega arith)
length-placed (e ∷ t) o l g = elim (used_or_free t) [
  | inl f ↦ let u = used_tail e t in absurd (omega arith)
  | inr f ↦ ap (λ n. suc n) (length-filled t o f)
]

both_true : (b c : Bool) → (b && c) ≡ true → b ≡ true
both_true true c e = refl
both_true false c e = cc

module _ (a : Head) (few : a.entries ≤ 32767) where
  pub places_placed : (t : Table) (o : Object) → length t ≡ 32768 → has_room bounded_table a t o ≡ true → length (placed t o) ≡ 32768
  places_placed t o l g =
      let b : nat_le (total_used one t + 1) a.entries ≡ true = both_true _ _ g in
      let m : total_used one t + 1 ≤ a.entries = grind (arith, nat_tests) in
      length-placed t o (omega arith) (omega arith) ∙ l

  -- a sound table beside itself
  abbrev pub sound_simulation : Simulation bounded_table bounded_table
  sound_simulation = closed_simulation true a (λ t. length t ≡ 32768) (λ t n x p. length-changed t n x ∙ p) places_placed

  -- a step that does the same beside itself leaves sound what was
  pub stays_sound : {A : Type 0} (Q : A → Type 0) (r : A → A) (m : Step Table A) → Same sound_simulation Q r m m
      → (c d : State Table) (x : A) → IsSound c → c.head ≡ a → m.run c ≡ Went x d → IsSound d × (d.head ≡ a)
  stays_sound Q r m same c d x k f e =
      let s = stays_closed true a (λ t. length t ≡ 32768) (λ t n x p. length-changed t n x ∙ p) places_placed Q r m same c d x k.closed k.places f e in
      (record { places = s.1; closed = s.0 }, s.2)

  -- so does the next bytecode
  pub step_sound : (c d : State Table) (o : Outcome) → IsSound c → c.head ≡ a → (step bounded_table).run c ≡ Went o d → IsSound d × (d.head ≡ a)
  step_sound c d o k f e = stays_sound _ _ (step bounded_table) (step-same sound_simulation tt) c d o k f e
