-- Endings of cycles: which a run goes on after, and how many cycles they count for.
use Rattle.std.proofs.Common.{◌≡◌, ℕ, zero, suc, ◌+◌, Bool, true, false, Some, None, Ok, Err, refl, ap, ◌∙◌, arith}
use Rattle.std.specs.Prelude.{Result}
use Rattle.st_model.specs.declared.dead.Dead.{Dead}
use Rattle.st_model.specs.declared.outcome.Outcome.TheVariants as code_outcome
use Rattle.st_model.specs.Outcomes.{Ending, With, Space, renamed_ending}
use Rattle.st_model.specs.Outcomes as outcome
use Rattle.st_model.specs.Machine.{State, Transition, Died, Went}
use Rattle.st_model.specs.Table.{Table}
use Rattle.st_model.specs.Cycles.{and_on, counted, run_of, finished_of}
use Rattle.st_model.specs.inside.Calls.{transition_of}
use Rattle.st_machine.specs.declared.cycling.CycleEnd.{CycleEnd}
use Rattle.st_machine.specs.declared.cycling.CycleEnd.TheVariants as cycle_end
use Rattle.st_machine.specs.declared.ending.RunEnd.{RunEnd}
use Rattle.st_machine.specs.declared.ending.RunEnd.TheVariants as run_ends
use Rattle.st_machine.specs.inside.Runs.{ending_of, run_end, transition_at, cycles_of}

abbrev pub goes_on : Ending → Bool
goes_on (With outcome.Went) = true
goes_on (With outcome.Snapshot) = false
goes_on (With outcome.Quit) = false
goes_on (With outcome.Debugger) = false
goes_on (With (outcome.Say v)) = false
goes_on (Space demand left) = false

abbrev pub cycles_in : Ending → ℕ
cycles_in (With o) = 1
cycles_in (Space demand left) = 0

pub renamed_goes : (f : ℕ → ℕ) (a : Ending) → goes_on (renamed_ending f a) ≡ goes_on a
renamed_goes f (With outcome.Went) = refl
renamed_goes f (With outcome.Snapshot) = refl
renamed_goes f (With outcome.Quit) = refl
renamed_goes f (With outcome.Debugger) = refl
renamed_goes f (With (outcome.Say v)) = refl
renamed_goes f (Space demand left) = refl

pub renamed_cycles : (f : ℕ → ℕ) (a : Ending) → cycles_in (renamed_ending f a) ≡ cycles_in a
renamed_cycles f (With o) = refl
renamed_cycles f (Space demand left) = refl

module _ {S : Type 0} where
  pub stays : (a : Ending) (u : S) (f : S → Transition S Ending) → goes_on a ≡ false → and_on (Went a u) f ≡ Went a u
  stays (With outcome.Went) u f e = cc
  stays (With outcome.Snapshot) u f e = refl
  stays (With outcome.Quit) u f e = refl
  stays (With outcome.Debugger) u f e = refl
  stays (With (outcome.Say v)) u f e = refl
  stays (Space demand left) u f e = refl

  pub counts : (a : Ending) (u : S) (f : S → ℕ) → goes_on a ≡ false → counted (Went a u) f ≡ cycles_in a
  counts (With outcome.Went) u f e = cc
  counts (With outcome.Snapshot) u f e = refl
  counts (With outcome.Quit) u f e = refl
  counts (With outcome.Debugger) u f e = refl
  counts (With (outcome.Say v)) u f e = refl
  counts (Space demand left) u f e = refl

  -- a run is a run of its first cycles and then one of the others
  module _ (one : S → Transition S Ending) where
    run_split : (k j : ℕ) (s : S) → run_of one (k + j) s ≡ and_on (run_of one k s) (λ t. run_of one j t)
    unfolding run_of
    run_split zero j s = let e : 0 + j ≡ j = omega arith in ap (λ n. run_of one n s) e
    run_split (suc k) j s = let e : suc k + j ≡ suc (k + j) = omega arith in ap (λ n. run_of one n s) e ∙ over (one s) (λ t. run_split k j t)
      where
        over : (o : Transition S Ending) → ((t : S) → run_of one (k + j) t ≡ and_on (run_of one k t) (λ u. run_of one j u))
            → and_on o (λ t. run_of one (k + j) t) ≡ and_on (and_on o (λ t. run_of one k t)) (λ t. run_of one j t)
        over (Died cause) f = refl
        over (Went (With outcome.Went) t) f = f t
        over (Went (With outcome.Snapshot) t) f = refl
        over (Went (With outcome.Quit) t) f = refl
        over (Went (With outcome.Debugger) t) f = refl
        over (Went (With (outcome.Say v)) t) f = refl
        over (Went (Space demand left) t) f = refl

    pub run_on : (k j : ℕ) (s t : S) → run_of one k s ≡ Went (With outcome.Went) t → run_of one (k + j) s ≡ run_of one j t
    run_on k j s t e = run_split k j s ∙ ap (λ o. and_on o (λ u. run_of one j u)) e

    pub finished_on : (k j : ℕ) (s t : S) → run_of one k s ≡ Went (With outcome.Went) t → finished_of one (k + j) s ≡ k + finished_of one j t
    unfolding run_of finished_of
    finished_on zero j s t e = let q : s ≡ t = cc in let z : 0 + j ≡ j = omega arith in rw (z, q) (omega arith)
    finished_on (suc k) j s t e = let z : suc k + j ≡ suc (k + j) = omega arith in ap (λ n. finished_of one n s) z ∙ over (one s) e (λ u h. finished_on k j u t h)
      where
        over : (o : Transition S Ending) → and_on o (λ u. run_of one k u) ≡ Went (With outcome.Went) t → ((u : S) → run_of one k u ≡ Went (With outcome.Went) t → finished_of one (k + j) u ≡ k + finished_of one j t)
            → counted o (λ u. finished_of one (k + j) u) ≡ suc k + finished_of one j t
        over (Died cause) h f = cc
        over (Went (With outcome.Went) u) h f = let a = f u h in omega (arith, a)
        over (Went (With outcome.Snapshot) u) h f = cc
        over (Went (With outcome.Quit) u) h f = cc
        over (Went (With outcome.Debugger) u) h f = cc
        over (Went (With (outcome.Say v)) u) h f = cc
        over (Went (Space demand left) u) h f = cc

    pub run_one : (s : S) → run_of one 1 s ≡ and_on (one s) (λ t. Went (With outcome.Went) t)
    unfolding run_of
    run_one s = refl

    -- a run whose first cycle ends it
    pub run_stops : (j : ℕ) (s u : S) (a : Ending) → one s ≡ Went a u → goes_on a ≡ false → run_of one (suc j) s ≡ Went a u
    unfolding run_of
    run_stops j s u a e stop = ap (λ x. and_on x (λ t. run_of one j t)) e ∙ stays a u (λ t. run_of one j t) stop

    pub run_dies : (j : ℕ) (s : S) (cause : Dead) → one s ≡ Died cause → run_of one (suc j) s ≡ Died cause
    unfolding run_of
    run_dies j s cause e = ap (λ x. and_on x (λ t. run_of one j t)) e

    pub finished_stops : (j : ℕ) (s u : S) (a : Ending) → one s ≡ Went a u → goes_on a ≡ false → finished_of one (suc j) s ≡ cycles_in a
    unfolding finished_of
    finished_stops j s u a e stop = ap (λ x. counted x (λ t. finished_of one j t)) e ∙ counts a u (λ t. finished_of one j t) stop

    pub finished_dies : (j : ℕ) (s : S) (cause : Dead) → one s ≡ Died cause → finished_of one (suc j) s ≡ 0
    unfolding finished_of
    finished_dies j s cause e = ap (λ x. counted x (λ t. finished_of one j t)) e

-- what the code answers where a run stops

-- a cycle ended so, and the run with it
pub record Stops (x : Result CycleEnd Dead) (k : ℕ) (e : RunEnd) (d : State Table) (a : Ending) : Type 0 where
  pub ended : transition_of ending_of x d ≡ Went a d
  pub same : transition_at e d ≡ Went a d
  pub goes : goes_on a ≡ false
  pub count : (n : ℕ) → cycles_of n e ≡ k + cycles_in a

abbrev pub StopsOrDies : Result CycleEnd Dead → ℕ → RunEnd → State Table → Type 0
StopsOrDies (Ok end) k e d = Stops (Ok end) k e d (ending_of end)
StopsOrDies (Err cause) k e d = e ≡ run_ends.Dead k cause

module _ (k : ℕ) (d : State Table) where
  stops_at : (x : Result CycleEnd Dead) (e f : RunEnd) → e ≡ f → StopsOrDies x k f d → StopsOrDies x k e d
  stops_at x e f q h = rw q h

  pub run_end_stops : (x : Result CycleEnd Dead) (e : RunEnd) → run_end x k ≡ Some e → StopsOrDies x k e d
  run_end_stops (Ok (cycle_end.With code_outcome.Went)) e h = cc
  run_end_stops (Ok (cycle_end.With code_outcome.Snapshot)) e h =
      stops_at (Ok (cycle_end.With code_outcome.Snapshot)) e (run_ends.Snapshot (k + 1)) (cc) (record { ended = refl; same = refl; goes = refl; count = λ n. refl })
  run_end_stops (Ok (cycle_end.With (code_outcome.Say o))) e h =
      stops_at (Ok (cycle_end.With (code_outcome.Say o))) e (run_ends.Say (k + 1) o) (cc) (record { ended = refl; same = refl; goes = refl; count = λ n. refl })
  run_end_stops (Ok (cycle_end.With code_outcome.Quit)) e h =
      stops_at (Ok (cycle_end.With code_outcome.Quit)) e (run_ends.Quit (k + 1)) (cc) (record { ended = refl; same = refl; goes = refl; count = λ n. refl })
  run_end_stops (Ok (cycle_end.With code_outcome.Debugger)) e h =
      stops_at (Ok (cycle_end.With code_outcome.Debugger)) e (run_ends.Debugger (k + 1)) (cc) (record { ended = refl; same = refl; goes = refl; count = λ n. refl })
  run_end_stops (Ok (cycle_end.Space demand left)) e h =
      let z : k ≡ k + 0 = omega arith in
      stops_at (Ok (cycle_end.Space demand left)) e (run_ends.Space k demand left.entries left.words) (cc) (record { ended = refl; same = refl; goes = refl; count = λ n. z })
  run_end_stops (Err cause) e h = cc

  pub run_end_goes : (x : Result CycleEnd Dead) → run_end x k ≡ None → transition_of ending_of x d ≡ Went (With outcome.Went) d
  run_end_goes (Ok (cycle_end.With code_outcome.Went)) h = refl
  run_end_goes (Ok (cycle_end.With code_outcome.Snapshot)) h = cc
  run_end_goes (Ok (cycle_end.With (code_outcome.Say o))) h = cc
  run_end_goes (Ok (cycle_end.With code_outcome.Quit)) h = cc
  run_end_goes (Ok (cycle_end.With code_outcome.Debugger)) h = cc
  run_end_goes (Ok (cycle_end.Space demand left)) h = cc
  run_end_goes (Err cause) h = cc
