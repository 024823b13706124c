-- Cycles over a table, one after the other, show the run over the births.
use Rattle.std.proofs.Common.{◌≡◌, ℕ, suc, ◌+◌, ◌-◌, ◌<◌, false, Ok, Err, refl, ap, sym, ◌∙◌, subst, arith}
use Rattle.std.specs.Prelude.{◌≤◌, Result, Option, Some, None, IfSome, OnOk}
use Rattle.st_model.specs.declared.dead.Dead.{Dead}
use Rattle.st_model.specs.Outcomes.{Ending, With, IsLiveEnding, renamed_ending}
use Rattle.st_model.specs.Outcomes as outcome
use Rattle.st_model.specs.Machine.{State, Transition, Died, Went}
use Rattle.st_model.specs.Births.{Births, births, pointer_of}
use Rattle.st_model.specs.Table.{Table}
use Rattle.st_model.specs.Cycles.{cycle, run, run_of, finished, finished_of}
use Rattle.st_model.specs.Show.{Shows, IsKept}
use Rattle.st_model.specs.inside.Foreseen.{foreseen_cycle, IsSound, EndsShown}
use Rattle.st_model.specs.inside.Calls.{transition_of}
use Rattle.st_simulation.proofs.CyclesShown.{sound_shown}
use Rattle.st_model.specs.declared.outcome.Outcome.TheVariants as code_outcome
use Rattle.st_machine.specs.declared.cycling.CycleEnd.{CycleEnd}
use Rattle.st_machine.specs.declared.cycling.CycleEnd.TheVariants as cycle_end
use Rattle.st_machine.specs.declared.ending.RunEnd.{RunEnd}
use Rattle.st_machine.specs.declared.ending.RunEnd.TheVariants as run_ends
use Rattle.st_machine.specs.inside.Strides.{SoFar, NextEnds}
use Rattle.st_machine.specs.inside.Runs.{EndsAs, CountsCycles, ending_of, run_end, transition_at, death_of}
use Rattle.st_machine.proofs.Endings.{goes_on, cycles_in, renamed_goes, renamed_cycles, run_on, finished_on, run_stops, run_dies, finished_stops, finished_dies, Stops, run_end_stops, run_end_goes}

pub none_so_far : (s : State Births) (c : State Table) → Shows c s → SoFar 0 s c
unfolding run run_of
none_so_far s c h = record { state = s; ran = refl; shows = h }

-- the births' next cycle is shown by the table's
pub shown_next : (k : ℕ) (s : State Births) (c : State Table) → IsSound c → c.head.entries ≤ 32767 → SoFar k s c → (o : Transition (State Table) Ending) → foreseen_cycle c ≡ o → NextEnds k s o
shown_next k s c sound few far o e = record { state = far.state; ran = far.ran; ends = subst (λ x. EndsShown x (cycle births far.state)) e (sound_shown c far.state far.shows sound few) }

-- what goes on from where so many cycles came to
pub next_after : (j k : ℕ) (s : State Births) (c : State Table) (o : Transition (State Table) Ending) (far : SoFar j s c) → NextEnds k far.state o → NextEnds (j + k) s o
unfolding run
next_after j k s c o far next = record { state = next.state; ran = run_on (cycle births) j k s far.state far.ran ∙ next.ran; ends = next.ends }

ended_shown : (a : Ending) (d : State Table) (o : Transition (State Births) Ending) → EndsShown (Went a d) o
    → (b : Ending) × (u : State Births) × (o ≡ Went b u) × (a ≡ renamed_ending (pointer_of u.memory) b) × Shows d u × IsLiveEnding (IsKept u.memory) b
ended_shown a d (Died cause) h = absurd h
ended_shown a d (Went b u) h = (b, u, refl, h.0, h.1, h.2)

only_goes : (f : ℕ → ℕ) (b : Ending) → With outcome.Went ≡ renamed_ending f b → b ≡ With outcome.Went
only_goes f (With outcome.Went) e = refl
only_goes f (With outcome.Snapshot) e = cc
only_goes f (With outcome.Quit) e = cc
only_goes f (With outcome.Debugger) e = cc
only_goes f (With (outcome.Say v)) e = cc
only_goes f (outcome.Space demand left) e = cc

one_cycle : (t u : State Births) → cycle births t ≡ Went (With outcome.Went) u → run_of (cycle births) 1 t ≡ Went (With outcome.Went) u
unfolding run_of
one_cycle t u e = rw e refl

died_shown : (cause : Dead) (o : Transition (State Births) Ending) → EndsShown (Died cause) o → o ≡ Died cause
died_shown cause (Died b) h = ap (λ x. Died x) (sym h)
died_shown cause (Went a u) h = absurd h

module _ (k : ℕ) (s : State Births) where
  pub one_more : (d : State Table) → NextEnds k s (Went (With outcome.Went) d) → SoFar (k + 1) s d
  unfolding run
  one_more d next =
      let b = ended_shown (With outcome.Went) d (cycle births next.state) next.ends in
      let went : cycle births next.state ≡ Went (With outcome.Went) b.1 = b.2 ∙ ap (λ x. Went x b.1) (only_goes (pointer_of b.1.memory) b.0 b.3) in
      record { state = b.1; ran = run_on (cycle births) k 1 s next.state next.ran ∙ one_cycle next.state b.1 went; shows = b.4 }

  split : (n : ℕ) → k < n → n ≡ k + suc (n - suc k)
  split n l = omega arith

  stops : (n : ℕ) (x : Result CycleEnd Dead) (e : RunEnd) (a : Ending) (d : State Table) → k < n → NextEnds k s (transition_of ending_of x d) → Stops x k e d a → EndsAs n s e d
  unfolding run finished
  stops n x e a d l before t =
      let next = ended_shown a d (cycle births before.state) (subst (λ y. EndsShown y (cycle births before.state)) t.ended before.ends) in
      let b = next.0 in
      let u = next.1 in
      let goes : goes_on b ≡ false = sym (renamed_goes (pointer_of u.memory) b) ∙ (sym (ap goes_on next.3) ∙ t.goes) in
      let cycles : cycles_in b ≡ cycles_in a = sym (renamed_cycles (pointer_of u.memory) b) ∙ sym (ap cycles_in next.3) in
      let j = n - suc k in
      let last : run_of (cycle births) (k + suc j) s ≡ Went b u = run_on (cycle births) k (suc j) s before.state before.ran ∙ run_stops (cycle births) j before.state u b next.2 goes in
      let count : finished_of (cycle births) (k + suc j) s ≡ k + cycles_in a =
      finished_on (cycle births) k (suc j) s before.state before.ran ∙ ap (λ i. k + i) (finished_stops (cycle births) j before.state u b next.2 goes ∙ cycles) in
      let shown : EndsShown (transition_at e d) (Went b u) = subst (λ y. EndsShown y (Went b u)) (sym t.same) (next.3, next.4, next.5) in
      record {
        ends = subst (λ y. EndsShown (transition_at e d) y) (sym (ap (λ i. run_of (cycle births) i s) (split n l) ∙ last)) shown;
        count = ap (λ i. finished_of (cycle births) i s) (split n l) ∙ (count ∙ sym (t.count n));
      }

  dies : (n : ℕ) (cause : Dead) (d : State Table) → k < n → NextEnds k s (Died cause) → EndsAs n s (run_ends.Dead k cause) d
  unfolding run finished
  dies n cause d l next =
      let died = died_shown cause (cycle births next.state) next.ends in
      let j = n - suc k in
      let last : run_of (cycle births) (k + suc j) s ≡ Died cause = run_on (cycle births) k (suc j) s next.state next.ran ∙ run_dies (cycle births) j next.state cause died in
      let none = finished_dies (cycle births) j next.state cause died in
      let count : finished_of (cycle births) (k + suc j) s ≡ k + finished_of (cycle births) (suc j) next.state = finished_on (cycle births) k (suc j) s next.state next.ran in
      record {
        ends = subst (λ o. EndsShown (Died cause) o) (sym (ap (λ i. run_of (cycle births) i s) (split n l) ∙ last)) refl;
        count = ap (λ i. finished_of (cycle births) i s) (split n l) ∙ (count ∙ omega (arith, none));
      }

  pub ends_here : (n : ℕ) (x : Result CycleEnd Dead) (e : RunEnd) (d : State Table) → k < n → NextEnds k s (transition_of ending_of x d) → run_end x k ≡ Some e → EndsAs n s e d
  ends_here n (Ok end) e d l next h = stops n (Ok end) e (ending_of end) d l next (run_end_stops k d (Ok end) e h)
  ends_here n (Err cause) e d l next h = subst (λ y. EndsAs n s y d) (sym (run_end_stops k d (Err cause) e h)) (dies n cause d l next)

  pub goes_further : (x : Result CycleEnd Dead) (d : State Table) → NextEnds k s (transition_of ending_of x d) → run_end x k ≡ None → SoFar (k + 1) s d
  goes_further x d next h = one_more d (subst (λ o. NextEnds k s o) (run_end_goes k d x h) next)

pub ran_all : (k : ℕ) (s : State Births) (c : State Table) → SoFar k s c → EndsAs k s run_ends.Ran c
unfolding run finished finished_of
ran_all k s c far =
    let z : k + 0 ≡ k = omega arith in
    let count = finished_on (cycle births) k 0 s far.state far.ran in
    record {
      ends = subst (λ o. EndsShown (Went (With outcome.Went) c) o) (sym far.ran) (refl, far.shows, tt);
      count = ap (λ i. finished_of (cycle births) i s) (sym z) ∙ (count ∙ omega arith);
    }

-- how many cycles a run counts

finished_more : (n k : ℕ) → k < n → k + 1 ≤ n
finished_more n k l = omega arith

counts_if : (n k : ℕ) (x : Result CycleEnd Dead) → k < n → IfSome (run_end x k) (CountsCycles n)
counts_if n k (Ok (cycle_end.With code_outcome.Went)) l = tt
counts_if n k (Ok (cycle_end.With code_outcome.Snapshot)) l = record { most = finished_more n k l; least = λ asked. omega arith }
counts_if n k (Ok (cycle_end.With (code_outcome.Say o))) l = record { most = finished_more n k l; least = λ asked. omega arith }
counts_if n k (Ok (cycle_end.With code_outcome.Quit)) l = record { most = finished_more n k l; least = λ asked. omega arith }
counts_if n k (Ok (cycle_end.With code_outcome.Debugger)) l = record { most = finished_more n k l; least = λ asked. omega arith }
counts_if n k (Ok (cycle_end.Space demand left)) l = record { most = omega arith; least = λ asked. absurd asked }
counts_if n k (Err cause) l = record { most = omega arith; least = λ asked. absurd asked }

pub run_counts : (n k : ℕ) (x : Result CycleEnd Dead) (e : RunEnd) → run_end x k ≡ Some e → k < n → CountsCycles n e
run_counts n k x e h l = subst (λ (o : Option RunEnd). IfSome o (CountsCycles n)) h (counts_if n k x l)

-- a run that goes on, or ends without a death, had a cycle that ended
pub goes_ok : (x : Result CycleEnd Dead) (k : ℕ) (P : Type 0) → run_end x k ≡ None → OnOk x P → P
goes_ok (Ok end) k P e h = h
goes_ok (Err cause) k P e h = cc

pub lives_ok : (x : Result CycleEnd Dead) (k : ℕ) (e : RunEnd) (P : Type 0) → run_end x k ≡ Some e → death_of e ≡ None → OnOk x P → P
lives_ok (Ok end) k e P h d p = p
lives_ok (Err cause) k e P h d p =
    let q : run_ends.Dead k cause ≡ e = cc in
    let r : Some cause ≡ None = ap death_of q ∙ d in
    cc
