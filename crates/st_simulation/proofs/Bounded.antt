-- A table that is bounded does what a table does, as long as that stays within the capacities.
use Rattle.std.proofs.Common.{◌≡◌, ℕ, ◌+◌, ◌<◌, ◌≤◌, List, [], ◌∷◌, zero, suc, Option, Some, None, Bool, true, false, refl, sym, ◌∙◌, ap, arith, inl, inr, ◌⊎◌}
use Rattle.std.specs.Prelude.{if◌then◌else◌, nat_lt, nat_le, ◌&&◌}
use Rattle.std.proofs.lemmas.Bool.Decides.{nat_tests}
use Rattle.st_model.specs.Values.{Value, Small, Ref, renamed, renamed_all}
use Rattle.st_model.specs.Objects.{Object, renamed_object, one, words_of}
use Rattle.std.specs.Option.{option_map}
use Rattle.st_model.specs.Outcomes.{Outcome, renamed_outcome, IsLiveOutcome}
use Rattle.st_model.specs.Outcomes as outcome
use Rattle.st_model.specs.Machine.{Registers, World, Head, State, Transition, Died, Went, used, is_over, has_room, roots_of}
use Rattle.st_model.specs.Table.{Table, table, bounded_table, entry, changed, exchanged, placed, filled_first, total_used}
use Rattle.st_model.specs.Show.{renamed_registers, renamed_world, renamed_option, renamed_head}
use Rattle.st_model.specs.Bytecodes.{step}
use Rattle.st_simulation.proofs.Same.{OptionSame, Simulation, StateSame, TransitionSame}
use Rattle.st_simulation.proofs.BytecodesSame.{step-same}
use Rattle.st_model.proofs.Names.{AnyName, any_values, any_object}
use Rattle.st_model.proofs.Exchanging.{total_used-exchanged}

-- sums over a table that changed

module _ (weight : Object → ℕ) where
  total-filled : (t : Table) (o : Object) → total_used weight (filled_first t o) ≡ total_used weight t + weight o
  total-filled [] o = omega arith
  total-filled (None ∷ t) o = omega arith
  total-filled (Some a ∷ t) o = let e = total-filled t o in omega (arith, e)

  pub total-placed : (t : Table) (o : Object) → total_used weight (placed t o) ≡ total_used weight t + weight o
  total-placed [] o = omega arith
  total-placed (None ∷ t) o = total-filled t o
  total-placed (Some a ∷ t) o = let e = total-filled t o in omega (arith, e)

  pub total-changed : (t : Table) (n : ℕ) (o p : Object) → entry t n ≡ Some o → weight p ≡ weight o → total_used weight (changed t n p) ≡ total_used weight t
  total-changed [] n o p e w = refl
  total-changed (None ∷ t) zero o p e w = refl
  total-changed (Some a ∷ t) zero o p e w = let q : a ≡ o = cc in rw (q, w) refl
  total-changed (None ∷ t) (suc n) o p e w = total-changed t n o p e w
  total-changed (Some a ∷ t) (suc n) o p e w = ap (λ x. weight a + x) (total-changed t n o p e w)

-- names that stay as they are

abbrev pub same_name : ℕ → ℕ
same_name n = n

pub value-itself : (v : Value) → renamed same_name v ≡ v
value-itself (Small n) = refl
value-itself (Ref n) = refl

pub values-itself : (vs : List Value) → renamed_all same_name vs ≡ vs
values-itself [] = refl
values-itself (v ∷ vs) = let a = value-itself v in let b = values-itself vs in cc

pub object-itself : (o : Object) → renamed_object same_name o ≡ o
object-itself o = λ i. record { class = o.class; kind = o.kind; fields = values-itself o.fields i; units = o.units }

pub registers-itself : (r : Registers) → renamed_registers same_name r ≡ r
registers-itself r = λ i. record { active = value-itself r.active i; home = value-itself r.home i; method = value-itself r.method i; receiver = value-itself r.receiver i; ip = r.ip; sp = r.sp }

option-itself : (x : Option Value) → renamed_option same_name x ≡ x
option-itself None = refl
option-itself (Some v) = ap (λ y. Some y) (value-itself v)

pub head-itself : (a : Head) → renamed_head same_name a ≡ a
head-itself a = λ i. record { entries = a.entries; words = a.words; globals = option-itself a.globals i; symbols = option-itself a.symbols i }

pub world-itself : (w : World) → renamed_world same_name w ≡ w
world-itself w = λ i. record w {
  devices = record {
    new_process = value-itself w.devices.new_process i;
    display = value-itself w.devices.display i;
    cursor = value-itself w.devices.cursor i;
    input_semaphore = value-itself w.devices.input_semaphore i;
    timer = value-itself w.devices.timer i;
    low_space = value-itself w.devices.low_space i;
    pending = values-itself w.devices.pending i;
  };
}

pub number-itself : (x : Option ℕ) → x ≡ option_map same_name x
number-itself None = refl
number-itself (Some n) = refl

outcome-itself : (o : Outcome) → renamed_outcome same_name o ≡ o
outcome-itself outcome.Went = refl
outcome-itself outcome.Snapshot = refl
outcome-itself outcome.Quit = refl
outcome-itself outcome.Debugger = refl
outcome-itself (outcome.Say v) = ap (λ x. outcome.Say x) (value-itself v)

pub read_same : (a : Option Object) → OptionSame AnyName same_name a a
read_same None = refl
read_same (Some o) = (any_object o, ap (λ x. Some x) (sym (object-itself o)))

-- capacities

over_of : (e f n m : ℕ) → (e < n) ⊎ (f < m) → (if nat_lt e n then true else nat_lt f m) ≡ true
over_of e f n m (inl l) = let b : nat_lt e n ≡ true = grind (arith, nat_tests) in rw b refl
over_of e f n m (inr l) = let b : nat_lt f m ≡ true = grind (arith, nat_tests) in over_else (nat_lt e n) (nat_lt f m) b
  where
    over_else : (a b : Bool) → b ≡ true → (if a then true else b) ≡ true
    over_else true b e = refl
    over_else false b e = e

of_over : (e f n m : ℕ) → (if nat_lt e n then true else nat_lt f m) ≡ true → (e < n) ⊎ (f < m)
of_over e f n m h = split (nat_lt e n) refl h
  where
    split : (a : Bool) → nat_lt e n ≡ a → (if a then true else nat_lt f m) ≡ true → (e < n) ⊎ (f < m)
    split true p q = inl (grind (arith, nat_tests))
    split false p q = inr (grind (arith, nat_tests))

no_room : (e f n m : ℕ) → (nat_le n e && nat_le m f) ≡ false → (e < n) ⊎ (f < m)
no_room e f n m h = split (nat_le n e) refl h
  where
    split : (a : Bool) → nat_le n e ≡ a → (a && nat_le m f) ≡ false → (e < n) ⊎ (f < m)
    split true p q = inr (grind (arith, nat_tests))
    split false p q = inl (grind (arith, nat_tests))

module _ (a : Head) where
  abbrev pub IsBeyond : Table → Type 0
  IsBeyond t = is_over (used table t) a ≡ true

  beyond_placed : (t : Table) (o : Object) → (a.entries < total_used one t + 1) ⊎ (a.words < total_used words_of t + words_of o) → IsBeyond (placed t o)
  beyond_placed t o h = rw (total-placed one t o, total-placed words_of t o) (over_of a.entries a.words (total_used one t + 1) (total_used words_of t + words_of o) h)

  more : (n m k j : ℕ) → (a.entries < n) ⊎ (a.words < m) → n ≤ k → m ≤ j → (a.entries < k) ⊎ (a.words < j)
  more n m k j (inl l) p q = inl (omega arith)
  more n m k j (inr l) p q = inr (omega arith)

  pub stays_beyond : (t : Table) (o : Object) → IsBeyond t → IsBeyond (placed t o)
  stays_beyond t o h = beyond_placed t o (more (total_used one t) (total_used words_of t) (total_used one t + 1) (total_used words_of t + words_of o) (of_over a.entries a.words (total_used one t) (total_used words_of t) h) (omega arith) (omega arith))

  pub changed_beyond : (t : Table) (n : ℕ) (o p : Object) → IsBeyond t → entry t n ≡ Some o → words_of p ≡ words_of o → IsBeyond (changed t n p)
  changed_beyond t n o p h e w = rw (total-changed one t n o p e refl, total-changed words_of t n o p e w) h

  pub refused_beyond : (t u : Table) (b c : Head) (o : Object) → t ≡ u → b ≡ a → c ≡ renamed_head same_name b → has_room bounded_table c u (renamed_object same_name o) ≡ false → IsBeyond (placed t o)
  refused_beyond t u b c o e f g h =
      let q = object-itself o in
      let p : c ≡ a = g ∙ (head-itself b ∙ f) in
      let r = no_room c.entries c.words (total_used one u + 1) (total_used words_of u + words_of (renamed_object same_name o)) h in
      let r' : (a.entries < total_used one t + 1) ⊎ (a.words < total_used words_of t + words_of o) = rw (e, ← p, ← q) r in
      beyond_placed t o r'

  pub refused_or_not : (t u : Table) (b c : Head) (o : Object) → t ≡ u → b ≡ a → c ≡ renamed_head same_name b
      → (has_room bounded_table c u (renamed_object same_name o) ≡ true) ⊎ ((true ≡ true) × IsBeyond (placed t o))
  refused_or_not t u b c o e f g = by_room (has_room bounded_table c u (renamed_object same_name o)) refl
    where
      by_room : (r : Bool) → has_room bounded_table c u (renamed_object same_name o) ≡ r
          → (has_room bounded_table c u (renamed_object same_name o) ≡ true) ⊎ ((true ≡ true) × IsBeyond (placed t o))
      by_room true h = inl h
      by_room false h = inr (refl, refused_beyond t u b c o e f g h)

  pub exchanged_beyond : (t : Table) (n m : ℕ) (o p : Object) → IsBeyond t → entry t n ≡ Some o → entry t m ≡ Some p → IsBeyond (exchanged t n m)
  exchanged_beyond t n m o p h e f = rw (total_used-exchanged t n m o p e f one, total_used-exchanged t n m o p e f words_of) h

  abbrev pub bounded_simulation : Simulation table bounded_table
  bounded_simulation = record {
    live = AnyName;
    name = same_name;
    heaps = λ t u. u ≡ t;
    there = λ t n. Unit {0};
    limits = λ b. b ≡ a;
    makes = Unit {0};
    beyond = record {
      over = IsBeyond;
      lax = Unit {0};
      over_lax = λ t o. tt;
      over_live = λ t n o. tt;
      over_replace = λ t n o p v e f. changed_beyond t n o p v e f;
      over_exchange = λ t n m o p v e f. exchanged_beyond t n m o p v e f;
      over_append = λ t o v. stays_beyond t o v;
    };
    injective = λ m n k l e. e;
    read = λ t u n e l. rw e (read_same (entry t n));
    read_there = λ t u n o e f. (tt, any_object o);
    replace = λ t u n o p e l f lp k. rw (e, object-itself p) refl;
    exchange = λ t u n m o p e l k f g. rw e refl;
    append = λ t u b o e l g lo k. rw (e, object-itself o) refl;
    next_live = λ t u e. tt;
    next = λ t u e. rw e refl;
    named_live = λ t u q e. (tt, tt);
    named = λ t u q e. refl;
    pointer = λ t u n o e l f. refl;
    borne_live = λ t u p n e f. tt;
    borne_by = λ t u p e. rw e (number-itself (table.borne_by t p));
    used = λ t u e. ap (used table) e;
    rooms = λ t u b c o m e f g. refused_or_not t u b c o (sym e) f g;
    there_replace = λ t n m o p e k. k;
    there_exchange = λ t n m k o p e f h. h;
    there_append = λ t m o k. k;
  }

pub bounded_start : (c : State Table) → StateSame (bounded_simulation c.head) c c
bounded_start c = record {
  memory = refl;
  limits = refl;
  there = any_values (roots_of c);
  roots = any_values (roots_of c);
  registers = sym (registers-itself c.registers);
  world = sym (world-itself c.world);
  head = sym (head-itself c.head);
}

pub state_is : (a : Head) (d e : State Table) → StateSame (bounded_simulation a) d e → e ≡ d
state_is a d e s =
    let r = s.registers ∙ registers-itself d.registers in
    let w = s.world ∙ world-itself d.world in
    let h = s.head ∙ head-itself d.head in
    λ i. record { memory = s.memory i; registers = r i; world = w i; head = h i }

same_within : (a : Head) (o : Outcome) (d : State Table) (q : Transition (State Table) Outcome)
    → TransitionSame (bounded_simulation a) (IsLiveOutcome AnyName) (renamed_outcome same_name) (Went o d) q → is_over (used table d.memory) a ≡ false → q ≡ Went o d
same_within a o d (Died cause) h f = let g = h.1 in cc
same_within a o d (Went p e) (inl h) f = let g = h.1 in cc
same_within a o d (Went p e) (inr h) f = let x = h.1 ∙ outcome-itself o in let y = state_is a d e h.2 in cc

-- a step that stays within the capacities is done the same where the table is bounded
pub bounded_same : (c d : State Table) (o : Outcome) → (step table).run c ≡ Went o d → is_over (used table d.memory) c.head ≡ false → (step bounded_table).run c ≡ Went o d
bounded_same c d o e f =
    let s = (step-same (bounded_simulation c.head) tt).go c c (bounded_start c) in
    same_within c.head o d ((step bounded_table).run c) (rw e at s) f
