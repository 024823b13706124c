-- At the start of a cycle: births that a table shows, with the births still to come, are the same as the table.
use Rattle.std.proofs.Common.{◌≡◌, ℕ, ◌+◌, ◌-◌, ◌<◌, ◌≤◌, Some, true, false, refl, sym, ◌∙◌, ap, subst, arith, length, inl, inr, ◌⊎◌, nat_lt}
use Rattle.std.specs.Prelude.{if◌then◌else◌}
use Rattle.std.proofs.lemmas.Bool.Decides.{nat_tests}
use Rattle.st_model.specs.Objects.{place_of, renamed_object}
use Rattle.st_model.specs.Values.{AllLive}
use Rattle.st_model.specs.Machine.{ObjectMemory, State, roots_of}
use Rattle.st_model.specs.Births.{Births, births, object_born, bearer, borne}
use Rattle.st_model.specs.Table.{Table, entry}
use Rattle.st_model.specs.Births.{pointer_of}
use Rattle.st_model.specs.Show.{IsKept, IsUsed, Shows}
use Rattle.st_simulation.proofs.Same.{OptionSame, Simulation, StateSame}
use Rattle.st_model.proofs.TableLemmas.{shape, to_come, to_come-strict, to_come-none}
use Rattle.st_model.proofs.BirthLemmas.{borne_before, pointer_of-borne, object_there, object_past}
use Rattle.st_model.proofs.Names.{any_values, map_all, map_object, same_object, same_registers, same_head, same_world}
use Rattle.st_simulation.proofs.HeapsSame.{Naming, HeapSame, cycle_simulation, order_cases}

abbrev pub lives : Births → ℕ → Type 0
lives h n = IsKept h n ⊎ (length h ≤ n)

abbrev pub named : Births → Table → ℕ → ℕ
named h t n = if nat_lt n (length h) then pointer_of h n else to_come (shape t) (n - length h)

pub named-kept : (h : Births) (t : Table) (n p : ℕ) → borne h n ≡ Some p → named h t n ≡ p
named-kept h t n p e =
    let l = borne_before h n p e in
    let b : nat_lt n (length h) ≡ true = grind (arith, nat_tests) in
    rw b (pointer_of-borne h n p e)

pub named-later : (h : Births) (t : Table) (n : ℕ) → length h ≤ n → named h t n ≡ to_come (shape t) (n - length h)
named-later h t n l = let b : nat_lt n (length h) ≡ false = grind (arith, nat_tests) in rw b refl

module _ (c : State Table) (s : State Births) (w : Shows c s) where
  used : (n p : ℕ) → borne s.memory n ≡ Some p → IsUsed c.memory p
  used n p e = let o = object_there s.memory n (borne_before s.memory n p e) in
      (renamed_object (pointer_of s.memory) o.0, w.objects n p o.0 e o.1)

  apart : (n m p : ℕ) → borne s.memory n ≡ Some p → length s.memory ≤ m → named s.memory c.memory n ≡ named s.memory c.memory m → ⊥
  apart n m p e l q =
      let a = used n p e in
      let b = named-kept s.memory c.memory n p e in
      let d = named-later s.memory c.memory m l in
      let g = to_come-none c.memory (m - length s.memory) in
      let k : p ≡ to_come (shape c.memory) (m - length s.memory) = cc in
      let z : entry c.memory (to_come (shape c.memory) (m - length s.memory)) ≡ Some a.0 = subst (λ x. entry c.memory x ≡ Some a.0) k a.1 in
      cc

  in_order : (m n : ℕ) → length s.memory ≤ m → length s.memory ≤ n → named s.memory c.memory m ≡ named s.memory c.memory n → m < n → ⊥
  in_order m n k l e d =
      let a = to_come-strict (shape c.memory) (m - length s.memory) (n - length s.memory) (omega arith) in
      let b = named-later s.memory c.memory m k in
      let f = named-later s.memory c.memory n l in
      omega arith

  pub one_name : (m n : ℕ) → lives s.memory m → lives s.memory n → named s.memory c.memory m ≡ named s.memory c.memory n → m ≡ n
  one_name m n (inl k) (inl l) e =
      let a = named-kept s.memory c.memory m k.0 k.1 in
      let b = named-kept s.memory c.memory n l.0 l.1 in
      let q : k.0 ≡ l.0 = cc in
      w.distinct m n k.0 k.1 (rw q l.1)
  one_name m n (inl k) (inr l) e = absurd (apart m n k.0 k.1 l e)
  one_name m n (inr k) (inl l) e = absurd (apart n m l.0 l.1 k (sym e))
  one_name m n (inr k) (inr l) e = elim (order_cases m n) [
    | inl a ↦ absurd (in_order m n k l e a)
    | inr a ↦ elim (order_cases n m) [ inl b ↦ absurd (in_order n m l k (sym e) b) | inr b ↦ omega arith ]
  ]

  abbrev pub naming : Naming
  naming = record { live = lives s.memory; name = named s.memory c.memory; injective = one_name }

  pointer_named : (n : ℕ) → IsKept s.memory n → pointer_of s.memory n ≡ named s.memory c.memory n
  pointer_named n k = pointer_of-borne s.memory n k.0 k.1 ∙ sym (named-kept s.memory c.memory n k.0 k.1)

  now_live : (n : ℕ) → IsKept s.memory n → lives s.memory n
  now_live n k = inl k

  object_same : (n : ℕ) → lives s.memory n → OptionSame (lives s.memory) (named s.memory c.memory) (object_born s.memory n) (entry c.memory (named s.memory c.memory n))
  object_same n (inl k) =
      let o = object_there s.memory n (borne_before s.memory n k.0 k.1) in
      let l = w.closed n k.0 o.0 k.1 o.1 in
      let e = same_object (IsKept s.memory) (pointer_of s.memory) (named s.memory c.memory) pointer_named o.0 l in
      rw (o.1, named-kept s.memory c.memory n k.0 k.1, w.objects n k.0 o.0 k.1 o.1)
      (map_object (IsKept s.memory) (lives s.memory) now_live o.0 l, ap (λ x. Some x) e)
  object_same n (inr l) = rw (object_past s.memory n l, named-later s.memory c.memory n l) (to_come-none c.memory (n - length s.memory))

  kept_name : (n : ℕ) → lives s.memory n → n < length s.memory → borne s.memory n ≡ Some (named s.memory c.memory n)
  kept_name n (inl k) l = rw (named-kept s.memory c.memory n k.0 k.1) k.1
  kept_name n (inr k) l = absurd (omega arith)

  pub heaps_start : HeapSame naming s.memory c.memory
  heaps_start = record {
    objects = object_same;
    later = λ n l. inr l;
    later_names = λ i.
        let e : length s.memory + i - length s.memory ≡ i = omega arith in
        named-later s.memory c.memory (length s.memory + i) (omega arith) ∙ ap (to_come (shape c.memory)) e;
    kept = kept_name;
    bears = λ n p e. (inl (p, e), named-kept s.memory c.memory n p e);
    covered = λ k o e.
        let n = w.only k o e in
        (n.0, inl (k, n.1), borne_before s.memory n.0 k n.1, named-kept s.memory c.memory n.0 k n.1);
    page = λ q.
        let e = w.page q in
        let b = bearer s.memory (place_of q) in
        (borne_before s.memory b (place_of q) e, inl (place_of q, e), sym (named-kept s.memory c.memory b (place_of q) e));
  }

  -- where what is kept lives, and has its pointer for a name
  pub shown_states : {N : ObjectMemory Table} (sim : Simulation births N) → sim.heaps s.memory c.memory → sim.limits s.head → AllLive (sim.there s.memory) (roots_of s)
      → ((n : ℕ) → IsKept s.memory n → sim.live n) → ((n : ℕ) → IsKept s.memory n → pointer_of s.memory n ≡ sim.name n) → StateSame sim s c
  shown_states sim memory limits there kept_lives kept_named = record {
    memory = memory;
    limits = limits;
    there = there;
    roots = map_all (IsKept s.memory) sim.live kept_lives (roots_of s) w.roots;
    registers = w.registers ∙ same_registers (IsKept s.memory) (pointer_of s.memory) sim.name kept_named s.registers s.head s.world w.roots;
    world = w.world ∙ same_world (IsKept s.memory) (pointer_of s.memory) sim.name kept_named s.registers s.head s.world w.roots;
    head = w.head ∙ same_head (IsKept s.memory) (pointer_of s.memory) sim.name kept_named s.registers s.head s.world w.roots;
  }

  pub states_start : StateSame (cycle_simulation naming) s c
  states_start = shown_states (cycle_simulation naming) heaps_start tt (any_values (roots_of s)) now_live pointer_named
