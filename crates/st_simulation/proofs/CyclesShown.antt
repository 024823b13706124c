-- A running machine over a table does, cycle by cycle, what the births do that its table shows.
use Rattle.std.proofs.Common.{◌≡◌, ℕ, zero, suc, ◌≤◌, Bool, true, false, refl, sym, ◌∙◌, ap, subst, length, inl, inr}
use Rattle.st_model.specs.declared.dead.Dead.{Dead}
use Rattle.st_model.specs.declared.demand.Demand.{Demand}
use Rattle.st_model.specs.Outcomes.{Outcome, Ending, With, Space, renamed_outcome, renamed_ending, IsLiveOutcome, IsLiveEnding}
use Rattle.st_model.specs.Outcomes as outcome
use Rattle.st_model.specs.Machine.{Head, State, Transition, Died, Went, used, is_over}
use Rattle.st_model.specs.Bytecodes.{step}
use Rattle.st_model.specs.Births.{Births, births, pointer_of}
use Rattle.st_model.specs.Table.{Table, table, apart, bounded_table}
use Rattle.st_model.specs.Show.{Shows, IsUsed, IsKept}
use Rattle.st_model.specs.Settled.{reclaim}
use Rattle.st_model.specs.Machine.{less, capacity_of, free_space}
use Rattle.st_model.specs.Cycles.{made_between, check_process_switch, warned, ended, done_or_not, cycle_from, cycle, and_on, run_of, run, counted, finished_of, finished}
use Rattle.st_model.specs.inside.Foreseen.{done, done_if_room, foreseen, foreseen_from, foreseen_cycle, IsSound, ShownAgain, EndsShown, Foretells, DoesAsBirths}
use Rattle.st_simulation.proofs.Same.{TransitionSame}
use Rattle.st_simulation.proofs.BytecodesSame.{step-same}
use Rattle.st_simulation.proofs.HeapsSame.{cycle_simulation, same_used}
use Rattle.st_simulation.proofs.Started.{naming, states_start, heaps_start}
use Rattle.st_simulation.proofs.Reclaimed.{went_step}
use Rattle.st_simulation.proofs.Outside.{warned_shown, warned_sound}
use Rattle.st_simulation.proofs.CyclesSame.{check_process_switch-same}
use Rattle.st_simulation.proofs.Between.{shows_again, keeps_sound}
use Rattle.st_simulation.proofs.HeapsApart.{apart_simulation, states_apart, used_apart}
use Rattle.st_simulation.proofs.Bounded.{bounded_same}
use Rattle.st_simulation.proofs.Closed.{step_sound}
use Rattle.st_simulation.proofs.Going.{step_names_top}
use Rattle.st_model.proofs.Reclaiming.{reclaim_sound, reclaim_head}
use Rattle.st_simulation.proofs.OnTop.{outcome_stays}

-- what a bytecode leaves that is done from here is sound once it is reclaimed, and what its outcome names is still there
abbrev LeavesSound : State Table → Type 0
LeavesSound c = (o : Outcome) (d : State Table) → (step bounded_table).run c ≡ Went o d → IsSound (reclaim table d) × IsLiveOutcome (IsUsed (reclaim table d).memory) o

module _ (c : State Table) (s : State Births) (w : Shows c s) (places : length c.memory ≡ 32768) where
  -- foreseeing

  foretold : (o : Transition (State Births) Outcome) (p : Transition (State Table) Outcome)
      → TransitionSame (apart_simulation c s w places) (IsLiveOutcome (naming c s w).live) (renamed_outcome (apart_simulation c s w places).name) o p → Foretells p o
  foretold (Died a) (Died b) (inl h) = h
  foretold (Died a) (Died b) (inr h) = absurd h
  foretold (Died a) (Went b t) h = absurd h
  foretold (Went a u) (Died b) h = absurd h.1
  foretold (Went a u) (Went b d) (inl h) = absurd h.1
  foretold (Went a u) (Went b d) (inr h) = used_apart c s w places u.memory d.memory h.2.memory

  pub foretells : Foretells ((step apart).run c) ((step births).run s)
  foretells = foretold ((step births).run s) ((step apart).run c) ((step-same (apart_simulation c s w places) tt).go s c (states_apart c s w places))

  -- doing

  heads_alike : (d : Demand) → is_over d c.head ≡ is_over d s.head
  heads_alike d = ap (λ (a : Head). is_over d a) w.head

  done_within : (o : Outcome) (u : State Births) (p : Transition (State Table) Outcome) → (step table).run c ≡ p
      → TransitionSame (cycle_simulation (naming c s w)) (IsLiveOutcome (naming c s w).live) (renamed_outcome (naming c s w).name) (Went o u) p
      → is_over (used births u.memory) s.head ≡ false → DoesAsBirths c o u
  done_within o u (Died k) e h f = absurd h.1
  done_within o u (Went p d) e (inl h) f = absurd h.1
  done_within o u (Went p d) e (inr h) f =
      let q = same_used (naming c s w) u.memory d.memory h.2.memory in
      let r : is_over (used table d.memory) c.head ≡ false = ap (λ x. is_over x c.head) q ∙ (heads_alike (used births u.memory) ∙ f) in
      let g : (step table).run c ≡ Went (renamed_outcome (naming c s w).name o) d = e ∙ ap (λ x. Went x d) h.1 in
      record {
        outcome = renamed_outcome (naming c s w).name o;
        state = d;
        does = bounded_same c d (renamed_outcome (naming c s w).name o) g r;
        shows = λ closed live. went_step (naming c s w) d u o h.2 h.0 closed live;
      }

  pub does_as_births : (o : Outcome) (u : State Births) → (step births).run s ≡ Went o u → is_over (used births u.memory) s.head ≡ false → DoesAsBirths c o u
  does_as_births o u e f =
      let h = (step-same (cycle_simulation (naming c s w)) tt).go s c (states_start c s w) in
      done_within o u ((step table).run c) refl (rw e at h) f

  used_before : used table c.memory ≡ used births s.memory
  used_before = same_used (naming c s w) s.memory c.memory (heaps_start c s w)

  pub same_free : free_space table c ≡ free_space births s
  same_free = let e = used_before in let f = w.head in ap (λ (a : Head). less (capacity_of a) (used table c.memory)) f ∙ ap (λ x. less (capacity_of s.head) x) e

  -- a cycle

  no_space : (d : State Table) (u : State Births) → used apart d.memory ≡ used births u.memory
      → EndsShown (done_if_room c d true) (done_or_not births s outcome.Went u true)
  no_space d u e =
      let f = used_before in
      let g = same_free in
      let m : made_between apart c d ≡ made_between births s u = ap (λ x. less x (used table c.memory)) e ∙ ap (λ x. less (used births u.memory) x) f in
      (ap (λ x. Space x (free_space table c)) m ∙ ap (λ x. Space (made_between births s u) x) g, w, tt)

  within_space : (o : Outcome) (d : State Table) (u : State Births) → (step births).run s ≡ Went o u → is_over (used births u.memory) s.head ≡ false
      → LeavesSound c
      → EndsShown (done_if_room c d false) (done_or_not births s o u false)
  within_space o d u e f k =
      let does = does_as_births o u e f in
      let q : done_if_room c d false ≡ Went (With does.outcome) (warned table (reclaim table does.state)) = ap (done c) does.does in
      let sound = k does.outcome does.state does.does in
      let shown = does.shows sound.0.closed sound.1 in
      rw q (ap (λ x. With x) shown.0, warned_shown (reclaim table does.state) (reclaim births u) shown.1, shown.2)

  with_room : (o : Outcome) (d : State Table) (u : State Births) (b : Bool) → (step births).run s ≡ Went o u → used apart d.memory ≡ used births u.memory
      → is_over (used births u.memory) s.head ≡ b
      → LeavesSound c
      → EndsShown (done_if_room c d b) (done_or_not births s o u b)
  with_room o d u true e q f k = no_space d u q
  with_room o d u false e q f k = within_space o d u e f k

  cycle_ends : (o : Transition (State Births) Outcome) (p : Transition (State Table) Outcome) → (step births).run s ≡ o → Foretells p o
      → LeavesSound c
      → EndsShown (foreseen c p) (ended births s o)
  cycle_ends (Died a) (Died b) e h k = h
  cycle_ends (Died a) (Went p d) e h k = absurd h
  cycle_ends (Went o u) (Died b) e h k = absurd h
  cycle_ends (Went o u) (Went p d) e h k =
      let t : is_over (used apart d.memory) c.head ≡ is_over (used births u.memory) s.head = ap (λ x. is_over x c.head) h ∙ heads_alike (used births u.memory) in
      subst (λ b. EndsShown (done_if_room c d b) (done_or_not births s o u (is_over (used births u.memory) s.head))) (sym t)
      (with_room o d u (is_over (used births u.memory) s.head) e h refl k)

  pub bytecode_shown : LeavesSound c → EndsShown (foreseen c ((step apart).run c)) (ended births s ((step births).run s))
  bytecode_shown k = cycle_ends ((step births).run s) ((step apart).run c) refl foretells k

-- a run

-- both die of one cause, or end alike and leave births that the table shows
by_end : (P : Transition (State Table) Ending → Transition (State Births) Ending → Type 0) → ((a b : Dead) → EndsShown (Died a) (Died b) → P (Died a) (Died b))
    → ((b : Ending) (c : State Table) (s : State Births) → Shows c s → IsLiveEnding (IsKept s.memory) b → P (Went (renamed_ending (pointer_of s.memory) b) c) (Went b s))
    → (o : Transition (State Table) Ending) (p : Transition (State Births) Ending) → EndsShown o p → P o p
by_end P died went (Died a) (Died b) h = died a b h
by_end P died went (Died a) (Went b s) h = absurd h
by_end P died went (Went a c) (Died b) h = absurd h
by_end P died went (Went a c) (Went b s) h = rw h.0 (went b c s h.1 h.2)

abbrev RunsOn : ℕ → Transition (State Table) Ending → Transition (State Births) Ending → Type 0
RunsOn n o p =
    ((c : State Table) (s : State Births) → o ≡ Went (With outcome.Went) c → Shows c s → EndsShown (run_of foreseen_cycle n c) (run_of (cycle births) n s))
    → EndsShown (and_on o (λ c. run_of foreseen_cycle n c)) (and_on p (λ s. run_of (cycle births) n s))

run_step : (n : ℕ) (o : Transition (State Table) Ending) (p : Transition (State Births) Ending) → EndsShown o p → RunsOn n o p
run_step n = by_end (RunsOn n) (λ a b h f. h) on_step
  where
    on_step : (b : Ending) (c : State Table) (s : State Births) → Shows c s → IsLiveEnding (IsKept s.memory) b → RunsOn n (Went (renamed_ending (pointer_of s.memory) b) c) (Went b s)
    on_step (With outcome.Went) c s w l f = f c s refl w
    on_step b c s w l f = (refl, w, l)

-- what a cycle leaves that was done is sound, as what it began with was

step_leaves : (c d : State Table) (o : Outcome) → IsSound c → c.head.entries ≤ 32767 → (step bounded_table).run c ≡ Went o d
    → IsSound (reclaim table d) × ((reclaim table d).head ≡ c.head) × IsLiveOutcome (IsUsed (reclaim table d).memory) o
step_leaves c d o p l e =
    let r = step_sound c.head l c d o p refl e in
    let live = outcome_stays d r.0.closed o (λ v q. step_names_top c d v (e ∙ ap (λ (y : Outcome). Went y d) q)) in
    (reclaim_sound d r.0, reclaim_head d ∙ r.1, live)

leaves_sound : (c : State Table) → IsSound c → c.head.entries ≤ 32767 → LeavesSound c
leaves_sound c p l o d e = let r = step_leaves c d o p l e in (r.0, r.2)

sound_done : (c x : State Table) (o : Outcome) (q : Transition (State Table) Outcome) → IsSound c → c.head.entries ≤ 32767 → (step bounded_table).run c ≡ q → done c q ≡ Went (With o) x
    → IsSound x × (x.head ≡ c.head)
sound_done c x o (Died k) p l e f = cc
sound_done c x o (Went a d) p l e f =
    let r = step_leaves c d a p l e in
    let g : warned table (reclaim table d) ≡ x = cc in (
      subst IsSound g (warned_sound (reclaim table d) r.0),
      sym (ap (λ (y : State Table). y.head) g) ∙ r.1,
    )

sound_if_room : (c d x : State Table) (o : Outcome) (b : Bool) → IsSound c → c.head.entries ≤ 32767 → done_if_room c d b ≡ Went (With o) x → IsSound x × (x.head ≡ c.head)
sound_if_room c d x o true p l e = cc
sound_if_room c d x o false p l e = sound_done c x o ((step bounded_table).run c) p l refl e

sound_foreseen : (c x : State Table) (o : Outcome) (q : Transition (State Table) Outcome) → IsSound c → c.head.entries ≤ 32767 → foreseen c q ≡ Went (With o) x → IsSound x × (x.head ≡ c.head)
sound_foreseen c x o (Died k) p l e = cc
sound_foreseen c x o (Went a d) p l e = sound_if_room c d x o (is_over (used apart d.memory) c.head) p l e

-- what comes before the bytecode leaves a sound table too
switch_sound : (c d : State Table) (u : Unit {0}) → IsSound c → c.head.entries ≤ 32767 → (check_process_switch bounded_table).run c ≡ Went u d → IsSound d × (d.head ≡ c.head)
switch_sound c d u p l e = keeps_sound (λ H m. check_process_switch m) (λ H K M N sim. check_process_switch-same sim) c d p l e

few_later : (c d : State Table) → c.head.entries ≤ 32767 → d.head ≡ c.head → d.head.entries ≤ 32767
few_later c d l e = subst (λ (a : Head). a.entries ≤ 32767) (sym e) l

sound_from : (c x : State Table) (o : Outcome) (q : Transition (State Table) (Unit {0})) → IsSound c → c.head.entries ≤ 32767 → (check_process_switch bounded_table).run c ≡ q → foreseen_from q ≡ Went (With o) x
    → IsSound x × (x.head ≡ c.head)
sound_from c x o (Died k) p l e f = cc
sound_from c x o (Went u d) p l e f =
    let r = switch_sound c d u p l e in
    let g = sound_foreseen d x o ((step apart).run d) r.0 (few_later c d l r.1) f in
    (g.0, g.1 ∙ r.1)

sound_cycle : (c x : State Table) (o : Outcome) → IsSound c → c.head.entries ≤ 32767 → foreseen_cycle c ≡ Went (With o) x → IsSound x × (x.head ≡ c.head)
unfolding foreseen_cycle
sound_cycle c x o p l e = sound_from c x o ((check_process_switch bounded_table).run c) p l refl e

from_shown : (c : State Table) (o : Transition (State Table) (Unit {0})) (p : Transition (State Births) (Unit {0})) → IsSound c → c.head.entries ≤ 32767 → (check_process_switch bounded_table).run c ≡ o
    → ShownAgain o p → EndsShown (foreseen_from o) (cycle_from births p)
from_shown c (Died a) (Died b) p l e h = h
from_shown c (Died a) (Went y t) p l e h = absurd h
from_shown c (Went x d) (Died b) p l e h = absurd h
from_shown c (Went x d) (Went y t) p l e h =
    let r = switch_sound c d x p l e in
    bytecode_shown d t h.0 r.0.places (leaves_sound d r.0 (few_later c d l r.1))

pub sound_shown : (c : State Table) (s : State Births) → Shows c s → IsSound c → c.head.entries ≤ 32767 → EndsShown (foreseen_cycle c) (cycle births s)
unfolding foreseen_cycle cycle
sound_shown c s w p l = from_shown c ((check_process_switch bounded_table).run c) ((check_process_switch births).run s) p l refl
    (shows_again (λ H m. check_process_switch m) (λ H K M N sim. check_process_switch-same sim) c s w p l)

few_after : (c d : State Table) → IsSound c → c.head.entries ≤ 32767 → foreseen_cycle c ≡ Went (With outcome.Went) d → d.head.entries ≤ 32767
few_after c d p l e = few_later c d l (sound_cycle c d outcome.Went p l e).1

pub run_shown : (n : ℕ) (c : State Table) (s : State Births) → Shows c s → IsSound c → c.head.entries ≤ 32767 → EndsShown (run_of foreseen_cycle n c) (run births n s)
unfolding run_of run
run_shown zero c s w p l = (refl, w, tt)
run_shown (suc n) c s w p l =
    run_step n (foreseen_cycle c) (cycle births s) (sound_shown c s w p l)
    (λ d t e v. run_shown n d t v (sound_cycle c d outcome.Went p l e).0 (few_after c d p l e))

-- as many cycles are finished

abbrev CountsOn : ℕ → Transition (State Table) Ending → Transition (State Births) Ending → Type 0
CountsOn n o p =
    ((c : State Table) (s : State Births) → o ≡ Went (With outcome.Went) c → Shows c s → finished_of foreseen_cycle n c ≡ finished_of (cycle births) n s)
    → counted o (λ c. finished_of foreseen_cycle n c) ≡ counted p (λ s. finished_of (cycle births) n s)

counted_step : (n : ℕ) (o : Transition (State Table) Ending) (p : Transition (State Births) Ending) → EndsShown o p → CountsOn n o p
counted_step n = by_end (CountsOn n) (λ a b h f. refl) on_step
  where
    on_step : (b : Ending) (c : State Table) (s : State Births) → Shows c s → IsLiveEnding (IsKept s.memory) b → CountsOn n (Went (renamed_ending (pointer_of s.memory) b) c) (Went b s)
    on_step (With outcome.Went) c s w l f = ap (λ x. suc x) (f c s refl w)
    on_step b c s w l f = refl

pub finished_shown : (n : ℕ) (c : State Table) (s : State Births) → Shows c s → IsSound c → c.head.entries ≤ 32767 → finished_of foreseen_cycle n c ≡ finished births n s
unfolding finished_of finished
finished_shown zero c s w p l = refl
finished_shown (suc n) c s w p l =
    counted_step n (foreseen_cycle c) (cycle births s) (sound_shown c s w p l)
    (λ d t e v. finished_shown n d t v (sound_cycle c d outcome.Went p l e).0 (few_after c d p l e))
